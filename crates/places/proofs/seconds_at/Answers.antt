use Prim.Native.Nat.{◌+◌}
use mathlib.Core.Path.{refl}
use native.Mathlib.Omega.{arith}
use Rattle.places.proofs.UsualLaws.{other, seconds-are}
use Rattle.places.proofs.seconds_at.Goals as goal

pub overflow_cast-v-2 : goal.overflow_cast-v-2
overflow_cast-v-2 c = omega (arith, c.shared_slice_known-2-1.given (c.args.at + 1))

pub overflow_add-v-2 : goal.overflow_add-v-2
overflow_add-v-2 c = omega (arith, c.shared_slice_known-2-1.given (c.args.at + 1))

pub overflow_mul-v-2 : goal.overflow_mul-v-2
overflow_mul-v-2 c = omega (arith, c.shared_slice_known-2-1.given (c.args.at + 1))

pub overflow_cast-v-3 : goal.overflow_cast-v-3
overflow_cast-v-3 c = omega (arith, c.shared_slice_known-3-1.given (c.args.at + 2))

pub overflow_add-v-4 : goal.overflow_add-v-4
overflow_add-v-4 c = omega (arith, c.shared_slice_known-3-1.given (c.args.at + 1), c.shared_slice_known-3-1.given (c.args.at + 2))

pub returns : goal.returns
returns c = let p = c.requires in
    seconds-are _ _ _ p.0 p.1 p.2 refl c.if-v-gt172799.false c.if-v-eq0.false

pub returns-then-v-gt172799 : goal.returns-then-v-gt172799
returns-then-v-gt172799 c = other _ _

pub returns-then-v-eq0 : goal.returns-then-v-eq0
returns-then-v-eq0 c = other _ _
