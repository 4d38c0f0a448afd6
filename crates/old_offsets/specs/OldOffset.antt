-- The older edition's offset, as document 002 gives it: "an int32 value representing an offset in milliseconds from UTC". As in today's code
-- 86,400,000 are added to it, so that the sum is unsigned. To be believed.
use Rattle.base.specs.Coded.{Coded}
use Rattle.base.specs.declared.Refusal.TheVariants.{BadCode, BadData}
use Rattle.std.specs.Prelude.{ℕ, ◌+◌, ◌*◌, ◌-◌, ◌/◌, ◌%◌, List, [], ◌∷◌, ltb, eqb, ℤ, Err, Ok}
use Rattle.base.specs.Pick.{pick}
use Rattle.base.specs.Writing.{Form, bytes, unfit}
use Rattle.counts.specs.Fixed.{read_fixed, prefixed}
use Rattle.offsets.specs.Offset.{in_day, offset_of}
use Rattle.signed.specs.Number.{number}
use Rattle.signed.specs.OffsetSum.{sum_of, milliseconds_of}

-- the sum of a byte: "0x3f represents a zero offset", in half hours, of which 48 are a day
abbrev pub by_half_hours : ℕ → ℕ
by_half_hours v = (v + 48 - 0x3f) * 1800000

-- the sum of three bytes: "by adding 0x83ffff to the value", in seconds. What is too small for its day gives 0, which no offset has
abbrev pub by_seconds : ℕ → ℕ
by_seconds v = (v + 86400 - 0x83ffff) * 1000

-- the sum of a fixed32: "4-byte twos-complement values"
abbrev pub by_milliseconds : ℕ → ℕ
by_milliseconds v = (v + 86400000) % 0x100000000

-- a number whose sum is told by a form, "preferred forms only": an earlier form is in units of coarser
abbrev pub judged : (ℕ → ℕ) → ℕ → Coded ℕ → Coded ℕ
judged sum coarser (Ok (v, n)) = offset_of (n + 1) coarser (sum v)
judged sum coarser (Err k) = Err k

-- "the single byte 0x10..0x6e"; "three bytes, the first of which is in the range 0x82..0x85"; "the leader 0xfd followed by the number of
-- milliseconds as a fixed32". A first byte without a form is 7, also where nothing follows it.
unfoldable pub read_old_sum : List ℕ → Coded ℕ
read_old_sum [] = Err BadData
read_old_sum (b ∷ s) =
    pick (ltb b 0x10) (Err BadCode)
    (pick (ltb b 0x6f) (judged by_half_hours 172800000 (read_fixed 0 b s))
    (pick (ltb b 0x82) (Err BadCode)
    (pick (ltb b 0x86) (judged by_seconds 1800000 (read_fixed 2 b s))
    (pick (eqb b 0xfd) (judged by_milliseconds 1000 (read_fixed 4 0 s)) (Err BadCode)))))

-- "Offsets that are a multiple of 30 minutes"; "a whole number of seconds"; "Any other offset"
unfoldable pub write_old_sum : ℕ → List ℕ
write_old_sum sum =
    pick (eqb (sum % 1800000) 0) (prefixed 0 0x00 (sum / 1800000 + 0x3f - 48))
    (pick (eqb (sum % 1000) 0) (prefixed 2 0x00 (sum / 1000 + 0x83ffff - 86400))
    (prefixed 4 0xfd ((sum + 0x100000000 - 86400000) % 0x100000000)))

-- "offsets inside 24 hours, with 7 for any other"
abbrev pub old_sum_form : ℕ → Form
old_sum_form sum = pick (in_day sum) (bytes (write_old_sum sum)) (unfit BadCode)

-- the offset in milliseconds
abbrev pub read_old_offset : List ℕ → Coded ℤ
read_old_offset s = number milliseconds_of (read_old_sum s)

abbrev pub old_offset_form : ℤ → Form
old_offset_form ms = old_sum_form (sum_of ms)
