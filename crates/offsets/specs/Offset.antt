-- The offset code. To be believed.
use Rattle.base.specs.Coded.{Coded}
use Rattle.base.specs.declared.Refusal.TheVariants.{BadCode, BadData}
use Rattle.std.specs.Prelude.{ℕ, ◌+◌, ◌*◌, ◌/◌, ◌%◌, List, [], ◌∷◌, Bool, ltb, leb, eqb, ℤ, Err, Ok}
use Rattle.base.specs.Pick.{pick, both}
use Rattle.base.specs.Writing.{Form, bytes, unfit}
use Rattle.counts.specs.Fixed.{read_fixed, fixed_bytes}
use Rattle.signed.specs.Number.{number}
use Rattle.signed.specs.OffsetSum.{sum_of, milliseconds_of}

-- "add 86,400,000 ms; the sum is 1 to 172,799,999"
abbrev pub in_day : ℕ → Bool
in_day sum = both (leb 1 sum) (leb sum 172799999)

-- a sum in n bytes: "A later form for a value that fits an earlier one is refused", the earlier one being in units of coarser
abbrev pub offset_of : ℕ → ℕ → ℕ → Coded ℕ
offset_of n coarser sum = pick (in_day sum) (pick (eqb (sum % coarser) 0) (Err BadCode) (Ok (sum, n))) (Err BadCode)

-- a number of units behind the first byte
abbrev pub in_units : ℕ → ℕ → Coded ℕ → Coded ℕ
in_units unit coarser (Ok (v, n)) = offset_of (n + 1) coarser (v * unit)
in_units unit coarser (Err k) = Err k

-- "one byte of half hours; 100 and 13 bits of minutes; 101 and 21 bits of seconds; 110 and 29 bits of milliseconds. A later
-- form .. is refused, as is prefix 111", also where nothing follows it. No sum in its range is a multiple of 172,800,000.
unfoldable pub read_sum : List ℕ → Coded ℕ
read_sum [] = Err BadData
read_sum (b ∷ s) =
    pick (ltb b 128) (offset_of 1 172800000 (b * 1800000))
    (pick (ltb b 160) (in_units 60000 1800000 (read_fixed 1 (b % 32) s))
    (pick (ltb b 192) (in_units 1000 60000 (read_fixed 2 (b % 32) s))
    (pick (ltb b 224) (in_units 1 1000 (read_fixed 3 (b % 32) s)) (Err BadCode))))

-- "First form that fits"
unfoldable pub write_sum : ℕ → List ℕ
write_sum sum =
    pick (eqb (sum % 1800000) 0) ((sum / 1800000) ∷ [])
    (pick (eqb (sum % 60000) 0) ((128 + sum / 60000 / 256) ∷ fixed_bytes 1 (sum / 60000))
    (pick (eqb (sum % 1000) 0) ((160 + sum / 1000 / 65536) ∷ fixed_bytes 2 (sum / 1000))
    ((192 + sum / 16777216) ∷ fixed_bytes 3 sum)))

-- "writing, 7 for a number the code can't carry"
abbrev pub sum_form : ℕ → Form
sum_form sum = pick (in_day sum) (bytes (write_sum sum)) (unfit BadCode)

-- the offset code in milliseconds
abbrev pub read_offset : List ℕ → Coded ℤ
read_offset s = number milliseconds_of (read_sum s)

abbrev pub offset_form : ℤ → Form
offset_form ms = sum_form (sum_of ms)
