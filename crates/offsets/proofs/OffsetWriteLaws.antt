-- How the offset code is written: a law for each way out of the writer; and the length and the bytes of the form. Assumes nothing.
use Rattle.base.specs.declared.Refusal.{Refusal}
use Rattle.std.specs.Prelude.{Err, Result}
use Rattle.base.specs.declared.Refusal.TheVariants.{BadCode}
use mathlib.Core.Path.{◌≡◌}
use mathlib.Core.List.{List, [], ◌∷◌}
use Prim.Native.Nat.{ℕ, ◌+◌, ◌/◌, ◌%◌, ◌≤◌, ◌<◌}
use lib.IntN.{ℤ}
use borrow.Author.Tests.{le-leb, lt-leb, eq-eqb, ne_eqb}
use Rattle.base.specs.Writing.{bytes, Writes}
use Rattle.base.proofs.WriteLaws.{not_carried}
use Rattle.counts.specs.Fixed.{fixed_bytes}
use Rattle.signed.specs.OffsetSum.{sum_of}
use Rattle.offsets.specs.Offset.{write_sum, sum_form, offset_form}
use Rattle.offsets.proofs.OffsetLaws.{not-half-hours, not-minutes}

pub too_small : (sum : ℕ) (d : List ℕ) → sum < 1 → Writes (sum_form sum) d (Err BadCode) d
too_small sum d h = rw (lt-leb 1 sum h) (not_carried BadCode d)

pub too_large : (sum : ℕ) (d : List ℕ) → 1 ≤ sum → 172799999 < sum → Writes (sum_form sum) d (Err BadCode) d
too_large sum d l h = rw (le-leb 1 sum l, lt-leb sum 172799999 h) (not_carried BadCode d)

module _ (sum : ℕ) (least : 1 ≤ sum) (most : sum ≤ 172799999) (d : List ℕ) (r : Result ℕ Refusal) (e : List ℕ) where
  pub as-half-hours : sum % 1800000 ≡ 0 → Writes (bytes ((sum / 1800000) ∷ [])) d r e → Writes (sum_form sum) d r e
  unfolding write_sum
  as-half-hours a w = rw (le-leb 1 sum least, le-leb sum 172799999 most, eq-eqb (sum % 1800000) 0 a) w

  pub as-minutes : (sum % 1800000 ≡ 0 → ⊥) → sum % 60000 ≡ 0
      → Writes (bytes ((128 + sum / 60000 / 256) ∷ fixed_bytes 1 (sum / 60000))) d r e → Writes (sum_form sum) d r e
  unfolding write_sum
  as-minutes a b w = rw (le-leb 1 sum least, le-leb sum 172799999 most, ne_eqb (sum % 1800000) 0 a, eq-eqb (sum % 60000) 0 b) w

  pub as-seconds : (sum % 60000 ≡ 0 → ⊥) → sum % 1000 ≡ 0
      → Writes (bytes ((160 + sum / 1000 / 65536) ∷ fixed_bytes 2 (sum / 1000))) d r e → Writes (sum_form sum) d r e
  unfolding write_sum
  as-seconds a b w =
      rw (le-leb 1 sum least, le-leb sum 172799999 most, ne_eqb (sum % 1800000) 0 (not-half-hours sum a), ne_eqb (sum % 60000) 0 a, eq-eqb (sum % 1000) 0 b) w

  pub as-milliseconds : (sum % 1000 ≡ 0 → ⊥) → Writes (bytes ((192 + sum / 16777216) ∷ fixed_bytes 3 sum)) d r e → Writes (sum_form sum) d r e
  unfolding write_sum
  as-milliseconds a w =
      let n : sum % 60000 ≡ 0 → ⊥ = not-minutes sum a in
      rw (
        le-leb 1 sum least,
        le-leb sum 172799999 most,
        ne_eqb (sum % 1800000) 0 (not-half-hours sum n),
        ne_eqb (sum % 60000) 0 n,
        ne_eqb (sum % 1000) 0 a,
      ) w

-- the sum of the offset in milliseconds was written
pub as-offset : (z : ℤ) (u : ℕ) (d : List ℕ) (r : Result ℕ Refusal) (e : List ℕ) → u ≡ sum_of z → Writes (sum_form u) d r e → Writes (offset_form z) d r e
as-offset z u d r e i w = rw i at w
