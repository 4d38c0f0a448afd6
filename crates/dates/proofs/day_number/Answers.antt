use native.Mathlib.Omega.{arith}
use Rattle.calendar.specs.Calendar.{day_number}
use Rattle.calendar.proofs.Months.{start-room}
use Rattle.dates.proofs.day_number.Goals as goal

pub overflow_add-result : goal.overflow_add-result
overflow_add-result c = omega (arith, start-room c.args.k c.args.m c.requires.0 c.requires.1)

pub overflow_add-result-2 : goal.overflow_add-result-2
overflow_add-result-2 c = omega (arith, start-room c.args.k c.args.m c.requires.0 c.requires.1)

pub returns : goal.returns
unfolding day_number
returns c = omega arith
