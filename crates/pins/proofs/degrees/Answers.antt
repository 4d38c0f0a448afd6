use mathlib.Core.Path.{◌≡◌, sym, subst}
use lib.IntN.{ℤ}
use lib.Ieee.{Float, binary64, div, of_int, of_bits}
use mir.Syntax.{w32}
use mir.Val.{to_z, of_z, SFits}
use mir.ValLaws.{to_z-of_z}
use Rattle.pins.specs.Degrees.{degrees_of, Sixteenfold}
use Rattle.pins.proofs.DegreesLaws.{hour, nearest, exact}
use Rattle.pins.proofs.degrees.Goals as goal

result : (z : ℤ) → SFits w32 z → div binary64 (of_int binary64 (to_z w32 (of_z w32 z))) hour ≡ degrees_of z
result z f = rw (to_z-of_z w32 z f) (nearest z f.sfits)

both : (z : ℤ) (x : Float) → SFits w32 z → x ≡ degrees_of z → (x ≡ degrees_of z) × Sixteenfold z x
both z x f e = (e, subst (Sixteenfold z) (sym e) (exact z f.sfits))

-- `of_bits` gives `hour` for the bits of 3600.0
pub returns : goal.returns
unfolding of_bits
returns c = let f = c.ranges.seconds in
    record { nearest = (both _ _ f (result _ f)).0; exact = (both _ _ f (result _ f)).1 }
