-- Worked degrees, by their bit patterns: both ends of both ranges, both signs, the two seconds that tell one rounding from another, and the ends of 32 bits.
-- Assumes nothing.
use mathlib.Core.Path.{◌≡◌, refl}
use mathlib.Core.List.{[], ◌∷◌, map}
use lib.IntN.{ℤ, pos, negsuc}
use lib.Ieee.{binary64, round, to_bits}
use Rattle.pins.specs.Degrees.{degrees_of}

-- 0 is +0.0. A product with 1/3600 would end in 4e at 3, two divisions by 60 in 16 at 5.
vectors : map (λ (z : ℤ). to_bits binary64 (degrees_of z))
    (pos 0 ∷ pos 1 ∷ negsuc 0 ∷ pos 3 ∷ pos 5 ∷ negsuc 4 ∷ pos 225 ∷ negsuc 224 ∷ pos 324000 ∷ negsuc 323999 ∷ pos 647999 ∷ pos 648000 ∷ negsuc 647999 ∷ pos 2147483647 ∷ negsuc 2147483647 ∷ [])
    ≡ 0 ∷ 0x3f323456789abcdf ∷ 0xbf323456789abcdf ∷ 0x3f4b4e81b4e81b4f ∷ 0x3f56c16c16c16c17 ∷ 0xbf56c16c16c16c17 ∷ 0x3fb0000000000000 ∷ 0xbfb0000000000000
    ∷ 0x4056800000000000 ∷ 0xc056800000000000 ∷ 0x40667ffdb97530ed ∷ 0x4066800000000000 ∷ 0xc066800000000000 ∷ 0x4122345678765432 ∷ 0xc1223456789abcdf ∷ []
unfolding degrees_of round to_bits
vectors = refl
