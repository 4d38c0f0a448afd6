-- Ask 14, a phone's trace: where its parts stand, and when they lie in it. To be believed.
use Rattle.std.specs.Prelude.{ℕ, zero, suc, ◌+◌, ◌*◌, Bool, true, List, leb, ℤ, length, take, drop}
use Rattle.std.specs.Int.{w32, w64}
use Rattle.std.proofs.Common.{to_z}
use Rattle.base.specs.Pick.{both}
use Rattle.counts.specs.Fixed.{fixed_from}

-- "all the trace's numbers are high first": the number of n bytes at a place
abbrev pub number_at : ℕ → ℕ → List ℕ → ℕ
number_at n at s = fixed_from n 0 (drop at s)

-- "a header (record count, record offset, name byte count, name offset, each four bytes ..)"
abbrev pub record_count : List ℕ → ℕ
record_count s = number_at 4 0 s

abbrev pub records_at : List ℕ → ℕ
records_at s = number_at 4 4 s

abbrev pub names_size : List ℕ → ℕ
names_size s = number_at 4 8 s

abbrev pub names_at : List ℕ → ℕ
names_at s = number_at 4 12 s

-- "records of instant (8), name start within the names (4), name length (4) and offset shown in milliseconds (4, signed)": 20 bytes; of the
-- record at a place. The instant is signed, as all instants are.
abbrev pub instant_at : ℕ → List ℕ → ℤ
instant_at at s = to_z w64 (number_at 8 at s)

abbrev pub name_start : ℕ → List ℕ → ℕ
name_start at s = number_at 4 (at + 8) s

abbrev pub name_length : ℕ → List ℕ → ℕ
name_length at s = number_at 4 (at + 12) s

abbrev pub shown_at : ℕ → List ℕ → ℤ
shown_at at s = to_z w32 (number_at 4 (at + 16) s)

-- the bytes of its name, where the names stand at a place
abbrev pub name_at : ℕ → ℕ → List ℕ → List ℕ
name_at names at s = take (name_length at s) (drop (names + name_start at s) s)

-- "in each case start or end past the length, even when empty": no end is before its start, so the end tells
unfoldable pub within : ℕ → ℕ → ℕ → Bool
within start size length = leb (start + size) length

-- "any record's name leaves the names": those of the n records at a place don't
unfoldable pub names_within : ℕ → ℕ → ℕ → List ℕ → Bool
names_within zero at size s = true
names_within (suc n) at size s = both (within (name_start at s) (name_length at s) size) (names_within n (at + 20) size s)

-- "21 first if header, records or names leave the trace or any record's name leaves the names". The product is one of numbers: none is cut to
-- 32 bits.
unfoldable pub trace_ok : List ℕ → Bool
trace_ok s =
    both (within 0 16 (length s))
    (both (within (records_at s) (record_count s * 20) (length s))
    (both (within (names_at s) (names_size s) (length s)) (names_within (record_count s) (records_at s) (names_size s) s)))
