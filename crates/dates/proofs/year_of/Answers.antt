use borrow.Author.Tests.{le-leb, lt-leb}
use native.Mathlib.Omega.{arith}
use Prim.Native.Nat.{◌/◌, ◌*◌, ◌+◌}
use Rattle.calendar.specs.Calendar.{year_of, estimate}
use Rattle.calendar.proofs.Years.{year-high}
use Rattle.dates.proofs.year_of.Goals as goal

pub overflow_sub-result : goal.overflow_sub-result
overflow_sub-result c = omega (arith, c.if-year_start-n.false, year-high ((400 * c.args.n + 699) / 146097))

pub returns-then-year_start-n : goal.returns-then-year_start-n
unfolding year_of estimate
returns-then-year_start-n c = simp (le-leb _ _ (rw c.year_start.ensures at c.if-year_start-n.true))

pub returns-else-year_start-n : goal.returns-else-year_start-n
unfolding year_of estimate
returns-else-year_start-n c = simp (lt-leb _ _ (rw c.year_start.ensures at c.if-year_start-n.false))
