use Prim.Native.Nat.{◌+◌}
use native.Mathlib.Omega.{arith}
use Rattle.interval_runs.proofs.StepLaws.{same-details, no_same}
use Rattle.interval_runs.proofs.same_details.Goals as goal

pub overflow_cast-x : goal.overflow_cast-x
overflow_cast-x c = omega (arith, c.shared_slice_known-1.given c.args.at)

pub overflow_cast-x-2 : goal.overflow_cast-x-2
overflow_cast-x-2 c = omega (arith, c.shared_slice_known-2-1.given (c.args.at + 1))

pub overflow_mul-x : goal.overflow_mul-x
overflow_mul-x c = omega (arith, c.shared_slice_known-2-1.given (c.args.at + 1))

pub overflow_add-x-2 : goal.overflow_add-x-2
overflow_add-x-2 c = omega (arith, c.shared_slice_known-2-1.given (c.args.at + 1), c.shared_slice_known-2-1.given c.args.at)

pub overflow_cast-y : goal.overflow_cast-y
overflow_cast-y c = omega (arith, c.shared_slice_known-3-1.given c.args.old)

pub overflow_cast-y-2 : goal.overflow_cast-y-2
overflow_cast-y-2 c = omega (arith, c.shared_slice_known-4-1.given (c.args.old + 1))

pub overflow_mul-y : goal.overflow_mul-y
overflow_mul-y c = omega (arith, c.shared_slice_known-4-1.given (c.args.old + 1))

pub overflow_add-y-2 : goal.overflow_add-y-2
overflow_add-y-2 c = omega (arith, c.shared_slice_known-4-1.given (c.args.old + 1), c.shared_slice_known-4-1.given c.args.old)

pub returns-then-x-y : goal.returns-then-x-y
returns-then-x-y c = no_same _ _ _

pub returns-then-s-at : goal.returns-then-s-at
returns-then-s-at c = no_same _ _ _

pub returns : goal.returns
returns c = same-details _ _ _ (omega (arith, c.shared_slice_known-1.given c.args.at)) (omega (arith, c.shared_slice_known-1.given c.args.old)) c.if-x-y.false c.if-s-at.false
