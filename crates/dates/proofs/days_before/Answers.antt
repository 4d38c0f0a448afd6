use native.Mathlib.Omega.{arith}
use Prim.Native.Nat.{◌-◌}
use Rattle.calendar.proofs.Years.{leap-le}
use Rattle.calendar.proofs.Months.{march-le, march-room, before-closed}
use Rattle.dates.proofs.days_before.Goals as goal

pub overflow_sub-result : goal.overflow_sub-result
overflow_sub-result c = omega (arith, leap-le c.args.k)

pub overflow_mul-result-2 : goal.overflow_mul-result-2
overflow_mul-result-2 c = omega (arith, march-le c.args.m (2 - c.leap_day.result) c.requires.1)

pub overflow_sub-result-2 : goal.overflow_sub-result-2
overflow_sub-result-2 c = omega (arith, march-room c.args.m (2 - c.leap_day.result) c.requires.1 (omega arith))

pub returns : goal.returns
returns c = rw c.leap_day.ensures (before-closed c.args.k c.args.m c.requires.1)
