use native.Mathlib.Omega.{arith}
use mathlib.Core.Path.{◌≡◌}
use Prim.Native.Nat.{◌+◌}
use Rattle.base.specs.Pick.{pick}
use Rattle.occurrences.specs.Rules.{falls_on}
use Rattle.occurrences.proofs.RuleLaws.{Room, room}
use Rattle.occurrences.proofs.falls_on.Goals as goal
use Rattle.occurrences.proofs.falls_on.Goals.{After-month_day, After-move_day-m}

-- where the calls have returned
at : (c : goal.After-month_day) → Room c.args.r c.args.k
at c = room _ _ c.requires.2 c.requires.0 c.requires.1

pub day_number-n-requires : goal.day_number-n-requires
day_number-n-requires c = omega (arith, at c)

pub move_day-m-requires : goal.move_day-m-requires
move_day-m-requires c = omega (arith, at (goal.at.move_day-m-requires c).After-month_day, rw c.month_day.ensures at c.day_number-n.ensures)

-- where the day has been moved
result-is : (c : goal.After-move_day-m) →
    c.move_day-m.result + pick c.args.r.plus 1 0 ≡ falls_on c.args.r c.args.k
unfolding falls_on
result-is c = rw (c.move_day-m.ensures, c.day_number-n.ensures, c.month_day.ensures)

pub overflow_add-result : goal.overflow_add-result
overflow_add-result c = omega (arith, at (goal.at.overflow_add-result c).After-month_day, result-is (goal.at.overflow_add-result c).After-move_day-m)

pub returns-then-r : goal.returns-then-r
returns-then-r c = simp c.if-r.true at (result-is (goal.at.returns-then-r c).After-move_day-m)

pub returns-else-r : goal.returns-else-r
returns-else-r c = omega (arith, simp c.if-r.false at (result-is (goal.at.returns-else-r c).After-move_day-m))
