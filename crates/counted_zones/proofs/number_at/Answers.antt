use native.Mathlib.Omega.{arith}
use Rattle.counted_zones.proofs.StepLaws.{number-rises, number-one, number-two, number-end-two}
use Prim.Native.Nat.{◌+◌}
use Rattle.counted_zones.proofs.number_at.Goals as goal

pub bounds-s-at : goal.bounds-s-at
bounds-s-at c = omega (arith, number-rises c.args.s.now c.args.at, c.requires)

pub overflow_cast-b : goal.overflow_cast-b
overflow_cast-b c = omega (arith, c.shared_slice_known-1.given c.args.at)

pub returns-then-b-lt128 : goal.returns-then-b-lt128
returns-then-b-lt128 c = number-one _ _ c.if-b-lt128.true

pub overflow_add-result : goal.overflow_add-result
overflow_add-result c = omega (arith, number-end-two c.args.s.now c.args.at c.if-b-lt128.false, c.requires, c.well_formed)

pub bounds-s-at-2 : goal.bounds-s-at-2
bounds-s-at-2 c = omega (arith, number-end-two c.args.s.now c.args.at c.if-b-lt128.false, c.requires)

pub overflow_cast-result : goal.overflow_cast-result
overflow_cast-result c = omega (arith, c.shared_slice_known-2-1.given (c.args.at + 1))

pub overflow_mul-result : goal.overflow_mul-result
overflow_mul-result c = omega (arith, c.shared_slice_known-2-1.given (c.args.at + 1))

pub overflow_add-result-2 : goal.overflow_add-result-2
overflow_add-result-2 c = omega (arith, c.shared_slice_known-2-1.given (c.args.at + 1))

pub returns : goal.returns
returns c = number-two _ _ c.if-b-lt128.false
