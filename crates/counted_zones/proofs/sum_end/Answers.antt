use native.Mathlib.Omega.{arith}
use Rattle.counted_zones.proofs.StepLaws.{sum-rises, sum-1, sum-2, sum-3, sum-4}
use Rattle.counted_zones.proofs.sum_end.Goals as goal

pub bounds-s-at : goal.bounds-s-at
bounds-s-at c = omega (arith, sum-rises c.args.s.now c.args.at, c.requires)

pub overflow_add-result : goal.overflow_add-result
overflow_add-result c = omega (arith, sum-rises c.args.s.now c.args.at, c.requires, c.well_formed)

pub returns-then-b-lt128 : goal.returns-then-b-lt128
returns-then-b-lt128 c = sum-1 _ _ c.if-b-lt128.true

pub overflow_add-result-then-b-lt160 : goal.overflow_add-result-then-b-lt160
overflow_add-result-then-b-lt160 c = omega (arith, sum-2 c.args.s.now c.args.at c.if-b-lt128.false c.if-b-lt160.true, c.requires, c.well_formed)

pub returns-then-b-lt160 : goal.returns-then-b-lt160
returns-then-b-lt160 c = sum-2 _ _ c.if-b-lt128.false c.if-b-lt160.true

pub overflow_add-result-then-b-lt192 : goal.overflow_add-result-then-b-lt192
overflow_add-result-then-b-lt192 c = omega (arith, sum-3 c.args.s.now c.args.at c.if-b-lt160.false c.if-b-lt192.true, c.requires, c.well_formed)

pub returns-then-b-lt192 : goal.returns-then-b-lt192
returns-then-b-lt192 c = sum-3 _ _ c.if-b-lt160.false c.if-b-lt192.true

pub overflow_add-result-2 : goal.overflow_add-result-2
overflow_add-result-2 c = omega (arith, sum-4 c.args.s.now c.args.at c.if-b-lt192.false, c.requires, c.well_formed)

pub returns : goal.returns
returns c = sum-4 _ _ c.if-b-lt192.false
