use Prim.Native.Nat.{◌+◌, ◌<◌}
use native.Mathlib.Omega.{arith}
use Rattle.rules.proofs.FieldLaws.{sum-range}
use Rattle.local_times.proofs.WayLaws.{with-larger, with-smaller, with-same, few-more}
use Rattle.local_times.proofs.with_tail.Goals as goal
use Rattle.local_times.proofs.with_tail.Goals.{After-struct_known-1}

-- what the sum's test tells
sum : (c : goal.After-struct_known-1) → (86400000 < c.args.tail.offset + c.args.tail.savings) × (c.args.tail.offset + c.args.tail.savings < 259200000)
sum c = sum-range _ _ c.requires.1.sum-ok

pub overflow_add-daylight : goal.overflow_add-daylight
overflow_add-daylight c = omega (arith, sum c)

pub overflow_sub-daylight : goal.overflow_sub-daylight
overflow_sub-daylight c = omega (arith, sum c)

pub tail_candidate-requires : goal.tail_candidate-requires
tail_candidate-requires c = (omega (arith, sum (goal.at.tail_candidate-requires c).After-struct_known-1), c.requires.1)

pub counted-requires : goal.counted-requires
counted-requires c = omega (arith, few-more _ _ _ c.counted-d.ensures)

pub returns-then-standard-daylight : goal.returns-then-standard-daylight
returns-then-standard-daylight c = with-larger _ _ _ _ _ _ _ c.counted.ensures c.counted-d.ensures c.tail_candidate.ensures c.tail_candidate-then-standard-daylight.ensures c.if-standard-daylight.true

pub counted-requires-then-daylight-standard : goal.counted-requires-then-daylight-standard
counted-requires-then-daylight-standard c = omega (arith, few-more _ _ _ c.counted-s.ensures)

pub returns-then-daylight-standard : goal.returns-then-daylight-standard
returns-then-daylight-standard c = with-smaller _ _ _ _ _ _ _ c.counted-then-daylight-standard.ensures c.counted-s.ensures c.tail_candidate-2.ensures c.tail_candidate-then-daylight-standard.ensures c.if-standard-daylight.false c.if-daylight-standard.true

pub returns : goal.returns
returns c = with-same _ _ _ _ _ c.counted-s.ensures c.tail_candidate-2.ensures c.if-standard-daylight.false c.if-daylight-standard.false
