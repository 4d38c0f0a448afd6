-- Signed ticks since 1970 and moments. To be believed.
use Rattle.std.specs.Prelude.{ℕ, suc, ◌+◌, ◌-◌, ◌≡◌, ltb, leb, eqb, ℤ, pos, negsuc}
use Rattle.std.proofs.Math.IntN.{sub_ℕ}
use Rattle.std.specs.Int.{w64}
use Rattle.std.proofs.Common.{to_z, of_z}
use Rattle.base.specs.Pick.{pick}
use Rattle.base.specs.Moment.{epoch, start_of_time, end_of_time}

-- an integer from -(low + 1) to high, with bias added; 0 for any other
unfoldable pub biased_of : ℕ → ℕ → ℕ → ℤ → ℕ
biased_of bias low high (pos n) = pick (leb n high) (n + bias) 0
biased_of bias low high (negsuc n) = pick (leb n low) (bias - suc n) 0

-- "Finite ones run from -621355968000000000 (year 1) to 2534023007999999999 (end of 9999)": the instant of a signed tick;
-- start of time for any other
abbrev pub instant_of : ℤ → ℕ
instant_of z = biased_of epoch 621355967999999999 2534023007999999999 z

-- an instant from year 1 to year 9999: a signed tick in that range
abbrev pub InRange : ℤ → Type 0
InRange z = instant_of z ≡ 0 → ⊥

-- a moment as a signed tick: the marks are the least and the largest 64-bit number
abbrev pub ticks_of : ℕ → ℤ
ticks_of b = pick (eqb b start_of_time) (negsuc 9223372036854775807) (pick (ltb b end_of_time) (sub_ℕ b epoch) (pos 9223372036854775807))

-- no moment: neither a mark nor an instant
abbrev pub no_moment : ℕ
no_moment = 1

abbrev pub or_none : ℕ → ℕ
or_none b = pick (eqb b 0) no_moment b

-- the moment of a signed tick, marks included
unfoldable pub moment_of : ℤ → ℕ
moment_of (pos n) = pick (leb 9223372036854775807 n) end_of_time (or_none (instant_of (pos n)))
moment_of (negsuc n) = pick (leb 9223372036854775807 n) start_of_time (or_none (instant_of (negsuc n)))

-- the instant of "eight bytes, high first, signed ticks", from the number of the bytes
abbrev pub from_raw : ℕ → ℕ
from_raw raw = instant_of (to_z w64 raw)

abbrev pub raw_of : ℕ → ℕ
raw_of b = of_z w64 (sub_ℕ b epoch)
