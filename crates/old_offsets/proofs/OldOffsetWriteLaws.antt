-- How the older offset is written: a law for each way out of the writer. Assumes nothing.
use Rattle.base.specs.declared.Refusal.{Refusal}
use Rattle.std.specs.Prelude.{Err, Result}
use Rattle.base.specs.declared.Refusal.TheVariants.{BadCode}
use mathlib.Core.Path.{◌≡◌}
use mathlib.Core.List.{List}
use Prim.Native.Nat.{ℕ, ◌+◌, ◌-◌, ◌/◌, ◌%◌, ◌≤◌, ◌<◌}
use lib.IntN.{ℤ}
use borrow.Author.Tests.{le-leb, lt-leb, eq-eqb, ne_eqb}
use Rattle.base.specs.Writing.{bytes, Writes}
use Rattle.base.proofs.WriteLaws.{not_carried}
use Rattle.counts.specs.Fixed.{prefixed}
use Rattle.signed.specs.OffsetSum.{sum_of}
use Rattle.old_offsets.specs.OldOffset.{write_old_sum, old_sum_form, old_offset_form}

pub too_small : (sum : ℕ) (d : List ℕ) → sum < 1 → Writes (old_sum_form sum) d (Err BadCode) d
too_small sum d h = rw (lt-leb 1 sum h) (not_carried BadCode d)

pub too_large : (sum : ℕ) (d : List ℕ) → 1 ≤ sum → 172799999 < sum → Writes (old_sum_form sum) d (Err BadCode) d
too_large sum d l h = rw (le-leb 1 sum l, lt-leb sum 172799999 h) (not_carried BadCode d)

module _ (sum : ℕ) (least : 1 ≤ sum) (most : sum ≤ 172799999) (d : List ℕ) (r : Result ℕ Refusal) (e : List ℕ) where
  pub as-half-hours : sum % 1800000 ≡ 0 → Writes (bytes (prefixed 0 0x00 (sum / 1800000 + 0x3f - 48))) d r e → Writes (old_sum_form sum) d r e
  unfolding write_old_sum
  as-half-hours a w = rw (le-leb 1 sum least, le-leb sum 172799999 most, eq-eqb (sum % 1800000) 0 a) w

  pub as-seconds : (sum % 1800000 ≡ 0 → ⊥) → sum % 1000 ≡ 0
      → Writes (bytes (prefixed 2 0x00 (sum / 1000 + 0x83ffff - 86400))) d r e → Writes (old_sum_form sum) d r e
  unfolding write_old_sum
  as-seconds a b w = rw (le-leb 1 sum least, le-leb sum 172799999 most, ne_eqb (sum % 1800000) 0 a, eq-eqb (sum % 1000) 0 b) w

  pub as-milliseconds : (sum % 1800000 ≡ 0 → ⊥) → (sum % 1000 ≡ 0 → ⊥)
      → Writes (bytes (prefixed 4 0xfd ((sum + 0x100000000 - 86400000) % 0x100000000))) d r e → Writes (old_sum_form sum) d r e
  unfolding write_old_sum
  as-milliseconds a b w = rw (le-leb 1 sum least, le-leb sum 172799999 most, ne_eqb (sum % 1800000) 0 a, ne_eqb (sum % 1000) 0 b) w

-- the sum of the offset in milliseconds was written
pub as-offset : (z : ℤ) (u : ℕ) (d : List ℕ) (r : Result ℕ Refusal) (e : List ℕ) → u ≡ sum_of z → Writes (old_sum_form u) d r e → Writes (old_offset_form z) d r e
as-offset z u d r e i w = rw i at w
