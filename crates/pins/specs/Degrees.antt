-- Degrees of whole seconds, and pins. To be believed; of `degrees_of` only what `specs/Nearest.antt` says of it, by `nearest-double` and `finite-double` in
-- `proofs/NearestLaws.antt`, and that 0 is +0: the kit's `round`, "the value of the format f that is nearest to num / den", is a way to find that double.
use Rattle.std.specs.Prelude.{suc, ◌%◌, ◌≡◌, true, false, ℤ, pos, negsuc, nat_abs, Float}
use Rattle.std.specs.Int.Signed.{quot_z}
use Rattle.std.specs.Float.{fin, binary64}
use Rattle.std.specs.Float.Ieee.{round, mul, of_int}
use Rattle.std.specs.Float.Ieee.Exact.{HasValue}
use Rattle.pins.specs.declared.Pin.{Pin}

-- "each coordinate is the seconds divided by 3600, rounded once"
unfoldable pub degrees_of : ℤ → Float
degrees_of (pos n) = round binary64 false n 3600
degrees_of (negsuc n) = round binary64 true (suc n) 3600

-- "The map library takes a pair of doubles"
abbrev pub pin_of : ℤ → ℤ → Pin
pin_of latitude longitude = record { latitude = degrees_of latitude; longitude = degrees_of longitude }

-- 16 as a double: 1 * 2 ^ 4
abbrev pub sixteen : Float
sixteen = fin false 1 (pos 4)

-- x is k / 16, with nothing rounded off
abbrev pub IsSixteenths : ℤ → Float → Type 0
IsSixteenths (pos n) x = HasValue x false n 16
IsSixteenths (negsuc n) x = HasValue x true (suc n) 16

-- "Where seconds are a multiple of 225 the degrees are exact, and sixteen times them is seconds over 225"
abbrev pub Sixteenfold : ℤ → Float → Type 0
Sixteenfold seconds x =
    nat_abs seconds % 225 ≡ 0 → IsSixteenths (quot_z seconds (pos 225)) x × (mul binary64 x sixteen ≡ of_int binary64 (quot_z seconds (pos 225)))
