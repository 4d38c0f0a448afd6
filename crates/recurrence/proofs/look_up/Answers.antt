use Prim.Native.Nat.{◌+◌, ◌<◌}
use native.Mathlib.Omega.{arith}
use Rattle.rules.proofs.FieldLaws.{sum-range}
use Rattle.occurrences.proofs.RuleLaws.{subtracted-le}
use Rattle.recurrence.proofs.LookupLaws.{daylight-answer, standard-answer}
use Rattle.recurrence.proofs.look_up.Goals as goal
use Rattle.recurrence.proofs.look_up.Goals.{Start}

-- what the sum's test tells
sum : (c : goal.Start) → (86400000 < c.args.tail.offset + c.args.tail.savings) × (c.args.tail.offset + c.args.tail.savings < 259200000)
sum c = sum-range _ _ c.requires.1.sum-ok

pub overflow_add-wall : goal.overflow_add-wall
overflow_add-wall c = omega (arith, sum (goal.at.overflow_add-wall c).Start)

pub overflow_sub-wall : goal.overflow_sub-wall
overflow_sub-wall c = omega (arith, sum (goal.at.overflow_sub-wall c).Start)

pub occurrences_at-s-requires : goal.occurrences_at-s-requires
occurrences_at-s-requires c = (c.requires.0, rw c.offset_for.ensures (subtracted-le _ _ _ (omega (arith, sum (goal.at.occurrences_at-s-requires c).Start)) (omega arith)), c.requires.1.standard-ok)

pub occurrences_at-d-requires : goal.occurrences_at-d-requires
occurrences_at-d-requires c = (c.requires.0, rw c.offset_for-2.ensures (subtracted-le _ _ _ (omega (arith, sum (goal.at.occurrences_at-d-requires c).Start)) (omega arith)), c.requires.1.daylight-ok)

pub returns-then-s-d : goal.returns-then-s-d
returns-then-s-d c = daylight-answer _ _ _ _ _ _ c.offset_for.ensures c.offset_for-2.ensures c.occurrences_at-s.ensures c.occurrences_at-d.ensures
    _ _ _ _ c.larger.ensures c.larger-start.ensures c.smaller.ensures c.smaller-end.ensures c.if-s-d.true

pub returns : goal.returns
returns c = standard-answer _ _ _ _ _ _ c.offset_for.ensures c.offset_for-2.ensures c.occurrences_at-s.ensures c.occurrences_at-d.ensures
    _ _ _ _ c.larger.ensures c.larger-start.ensures c.smaller.ensures c.smaller-end.ensures c.if-s-d.false
