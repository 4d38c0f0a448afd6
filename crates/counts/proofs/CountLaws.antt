-- The count's laws, from those of the groups. Assumes nothing.
use Rattle.base.specs.declared.Refusal.{Refusal}
use Rattle.std.specs.Prelude.{Err, Ok, Result}
use Rattle.base.specs.declared.Refusal.TheVariants.{BadCode, BadData}
use mathlib.Core.Path.{◌≡◌}
use mathlib.Core.List.{List, ◌++◌}
use mathlib.Core.Logic.{◌⊎◌}
use Prim.Native.Nat.{ℕ, suc, ◌^◌, ◌≤◌, ◌<◌}
use native.Mathlib.Omega.{arith}
use lib.ListN.{length, get_or, drop}
use lib.Seq.{drop-cons}
use borrow.Author.Tests.{lt-ltb, le-leb, lt-leb}
use Rattle.base.specs.Writing.{bytes, Writes}
use Rattle.base.proofs.WriteLaws.{not_carried}
use Rattle.base.proofs.Parts.{Bytes}
use Rattle.counts.specs.Groups.{read_groups}
use Rattle.counts.specs.Count.{read_count, write_count, count_form}
use Rattle.counts.proofs.GroupLaws.{group, read-written, Written, read-form}
use Rattle.counts.proofs.ShortestLaws.{same-added, past-added, group-refused}
use Rattle.counts.proofs.GroupWriteLaws.{write-some, write-size, write-mono, write-most, write-least, write_bytes}
pub use Rattle.counts.specs.Facts.{Counted, CountSize}

pub counted : (s : List ℕ) {v n : ℕ} → Ok (v, n) ≡ read_count s → Counted s v n
counted s e =
    let g = group 4 7 s e in
    record { small = omega arith; some = omega arith; size = omega arith; within = omega arith; single = g.single }

-- a byte below 128 at a place is a count
pub byte-count : (s : List ℕ) (place : ℕ) → place < length s → get_or s place 0 < 128 → read_count (drop place s) ≡ Ok (get_or s place 0, 1)
unfolding read_groups
byte-count s place h l = rw (drop-cons s place 0 h, lt-ltb (get_or s place 0) 128 l)

-- a count that was written is read back, whatever follows
pub count-written : (v : ℕ) (rest : List ℕ) → v ≤ 2147483647 → read_count (write_count v ++ rest) ≡ Ok (v, length (write_count v))
count-written v rest h = read-written 4 7 v rest (omega arith) (omega arith)

-- what reads as v is the written form of v
pub count-form : (s : List ℕ) {v n : ℕ} → Bytes s → Ok (v, n) ≡ read_count s → Written 4 s v n
count-form s h e = read-form 4 7 s (omega arith) h e

-- a count that is not cut is the same with more bytes; one that is cut ends, with more bytes, past the old end
pub count_same : (e s : List ℕ) → (Err BadData ≡ read_count s → ⊥) → read_count (s ++ e) ≡ read_count s
count_same e s p = same-added e 4 7 s p

pub count_past : (e s : List ℕ) {v n : ℕ} → Err BadData ≡ read_count s → Ok (v, n) ≡ read_count (s ++ e) → length s < n
count_past e s p q = past-added e 4 7 s p q

pub count-refused : (s : List ℕ) {k : Refusal} → Err k ≡ read_count s → (k ≡ BadCode) ⊎ (k ≡ BadData)
count-refused s e = group-refused 4 7 s e

pub count-size : (v : ℕ) → CountSize v
count-size v = record { some = write-some 4 v; most = write-size 4 v }

pub count-mono : (v w : ℕ) → v ≤ w → length (write_count v) ≤ length (write_count w)
count-mono v w h = write-mono 4 v w h

pub count-bytes : (v : ℕ) → Bytes (write_count v)
count-bytes v = write_bytes 4 v

-- the two ways out of the writer
pub carried : (v : ℕ) (d : List ℕ) (r : Result ℕ Refusal) (e : List ℕ) → v ≤ 2147483647 → Writes (bytes (write_count v)) d r e → Writes (count_form v) d r e
carried v d r e h w = rw (le-leb v 2147483647 h) w

pub above : (v : ℕ) (d : List ℕ) → 2147483647 < v → Writes (count_form v) d (Err BadCode) d
above v d h = rw (lt-leb v 2147483647 h) (not_carried BadCode d)

-- the written form's length by the size of the number
pub count-length : (j v : ℕ) → j ≤ 4 → 128 ^ j ≤ v → v < 128 ^ suc j → length (write_count v) ≡ suc j
count-length j v hj l h = omega (arith, write-most j 4 v h, write-least j 4 v hj l)

pub count-one : (v : ℕ) → v < 128 → length (write_count v) ≡ 1
count-one v h = omega (arith, write-most 0 4 v h, write-some 4 v)

pub count-five : (v : ℕ) → 268435456 ≤ v → length (write_count v) ≡ 5
count-five v h = omega (arith, write-size 4 v, write-least 4 4 v (omega arith) h)
