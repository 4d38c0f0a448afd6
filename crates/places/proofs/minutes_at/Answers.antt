use Prim.Native.Nat.{◌+◌}
use mathlib.Core.Path.{refl}
use native.Mathlib.Omega.{arith}
use Rattle.places.proofs.UsualLaws.{other, minutes-are}
use Rattle.places.proofs.minutes_at.Goals as goal

pub overflow_cast-v-2 : goal.overflow_cast-v-2
overflow_cast-v-2 c = omega (arith, c.shared_slice_known-2-1.given (c.args.at + 1))

pub overflow_add-v-2 : goal.overflow_add-v-2
overflow_add-v-2 c = omega (arith, c.shared_slice_known-2-1.given (c.args.at + 1))

pub returns : goal.returns
returns c = let p = c.requires in
    minutes-are _ _ _ p.0 p.1 p.2 refl c.if-v-gt2879.false c.if-v-eq0.false

pub returns-then-v-gt2879 : goal.returns-then-v-gt2879
returns-then-v-gt2879 c = other _ _

pub returns-then-v-eq0 : goal.returns-then-v-eq0
returns-then-v-eq0 c = other _ _
