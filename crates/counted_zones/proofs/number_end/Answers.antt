use native.Mathlib.Omega.{arith}
use Rattle.counted_zones.proofs.StepLaws.{number-rises, number-end-one, number-end-two}
use Rattle.counted_zones.proofs.number_end.Goals as goal

pub bounds-s-at : goal.bounds-s-at
bounds-s-at c = omega (arith, number-rises c.args.s.now c.args.at, c.requires)

pub overflow_add-result : goal.overflow_add-result
overflow_add-result c = omega (arith, number-rises c.args.s.now c.args.at, c.requires, c.well_formed)

pub returns-then-s-at-lt128 : goal.returns-then-s-at-lt128
returns-then-s-at-lt128 c = number-end-one _ _ c.if-s-at-lt128.true

pub overflow_add-result-2 : goal.overflow_add-result-2
overflow_add-result-2 c = omega (arith, number-end-two c.args.s.now c.args.at c.if-s-at-lt128.false, c.requires, c.well_formed)

pub returns : goal.returns
returns c = number-end-two _ _ c.if-s-at-lt128.false
