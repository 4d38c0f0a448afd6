use borrow.Author.Tests.{eq-eqb, ne_eqb}
use native.Mathlib.Omega.{arith}
use Rattle.calendar.specs.Calendar.{month_length}
use Rattle.calendar.proofs.Years.{leap-le}
use Rattle.calendar.proofs.Months.{length-le}
use Rattle.dates.proofs.month_length.Goals as goal

pub overflow_add-result : goal.overflow_add-result
overflow_add-result c = omega (arith, length-le c.args.m c.requires.1, leap-le c.args.k)

pub returns-then-m-eq2 : goal.returns-then-m-eq2
unfolding month_length
returns-then-m-eq2 c = simp (eq-eqb _ _ c.if-m-eq2.true) (omega arith)

pub returns-else-m-eq2 : goal.returns-else-m-eq2
unfolding month_length
returns-else-m-eq2 c = simp (ne_eqb _ _ c.if-m-eq2.false) (omega arith)
