-- How the transition code is written, over moments: a law for each way out of the writer and of its size. Assumes nothing.
use Rattle.base.specs.declared.Refusal.{Refusal}
use Rattle.std.specs.Prelude.{Err, Result}
use Rattle.base.specs.declared.Refusal.TheVariants.{BadCode}
use mathlib.Core.Path.{◌≡◌, sym, ◌∙◌}
use mathlib.Core.List.{List, ◌∷◌}
use Prim.Native.Nat.{ℕ, ◌<◌}
use native.Mathlib.Omega.{arith}
use lib.IntN.{ℤ}
use lib.ListN.{length}
use borrow.Author.Tests.{le-leb, eq-eqb, ne_eqb}
use Rattle.base.specs.Moment.{Finite, first_instant, last_instant, end_of_time}
use Rattle.base.specs.Writing.{bytes, Writes}
use Rattle.base.proofs.WriteLaws.{not_carried}
use Rattle.base.proofs.MomentLaws.{finite-yes, finite-low, finite-high}
use Rattle.counts.specs.Groups.{write_groups}
use Rattle.counts.specs.Count.{write_count, count_form}
use Rattle.counts.specs.Fixed.{fixed_bytes}
use Rattle.counts.proofs.FixedLaws.{length-fixed}
use Rattle.signed.specs.Instant.{instant_of, moment_of, raw_of}
use Rattle.transitions.specs.Transition.{count_to, write_moment, moment_form, transition_form}
use Rattle.transitions.proofs.MomentLaws.{Names, count-names, write-instant}

module _ (p m : ℕ) (d : List ℕ) where
  pub too-early : (m ≡ 0 → ⊥) → (m ≡ end_of_time → ⊥) → m < first_instant → Writes (moment_form p m) d (Err BadCode) d
  too-early a b h = rw (ne_eqb m 0 a, ne_eqb m end_of_time b, finite-low m h) (not_carried BadCode d)

  pub too-late : (m ≡ 0 → ⊥) → (m ≡ end_of_time → ⊥) → last_instant < m → Writes (moment_form p m) d (Err BadCode) d
  too-late a b h = rw (ne_eqb m 0 a, ne_eqb m end_of_time b, finite-high m h) (not_carried BadCode d)

  module _ (r : Result ℕ Refusal) (e : List ℕ) where
    pub as-start : m ≡ 0 → Writes (count_form 0) d r e → Writes (moment_form p m) d r e
    unfolding write_moment
    as-start h w = rw h w

    pub as-end : m ≡ end_of_time → Writes (count_form 1) d r e → Writes (moment_form p m) d r e
    unfolding write_moment
    as-end h w = rw h w

    instant-form : Finite m → Writes (bytes (write_moment p m)) d r e → Writes (moment_form p m) d r e
    instant-form f w = rw (ne_eqb m 0 (omega arith), ne_eqb m end_of_time (omega arith), finite-yes m f) w

    pub as-ticks : Finite m → (v raw : ℕ) → v ≡ count_to p m → v ≡ 0 → raw ≡ raw_of m → Writes (bytes (2 ∷ fixed_bytes 8 raw)) d r e
        → Writes (moment_form p m) d r e
    as-ticks f v raw i z q w =
        let k : count_to p m ≡ 0 = sym i ∙ z in
        instant-form f (rw (write-instant p m f, eq-eqb (count_to p m) 0 k) (rw q at w))

    pub as-count : Finite m → (v : ℕ) → v ≡ count_to p m → (v ≡ 0 → ⊥) → Writes (count_form v) d r e → Writes (moment_form p m) d r e
    as-count f v i z w =
        let k : count_to p m ≡ 0 → ⊥ = λ n. z (i ∙ n) in
        let n : Names p m (count_to p m) = count-names p m f k in
        instant-form f (rw (write-instant p m f, ne_eqb (count_to p m) 0 k) (rw (le-leb (count_to p m) 2147483647 n.small) at (rw i at w)))

-- the size of the form
pub size-start : (p m : ℕ) → m ≡ 0 → 1 ≡ length (write_moment p m)
unfolding write_moment write_groups
size-start p m h = rw h

pub size-end : (p m : ℕ) → m ≡ end_of_time → 1 ≡ length (write_moment p m)
unfolding write_moment write_groups
size-end p m h = rw h

module _ (p m v : ℕ) (a : m ≡ 0 → ⊥) (b : m ≡ end_of_time → ⊥) (i : v ≡ count_to p m) where
  pub size-ticks : v ≡ 0 → 9 ≡ length (write_moment p m)
  unfolding write_moment
  size-ticks z =
      let k : count_to p m ≡ 0 = sym i ∙ z in
      rw (ne_eqb m 0 a, ne_eqb m end_of_time b, eq-eqb (count_to p m) 0 k, length-fixed 8 (raw_of m))

  pub size-count : (n : ℕ) → (v ≡ 0 → ⊥) → n ≡ length (write_count v) → n ≡ length (write_moment p m)
  unfolding write_moment
  size-count n z e =
      let k : count_to p m ≡ 0 → ⊥ = λ q. z (i ∙ q) in
      rw (ne_eqb m 0 a, ne_eqb m end_of_time b, ne_eqb (count_to p m) 0 k) (rw i at e)

-- the signed ticks' moments were written
pub as-transition : (y z : ℤ) (p m : ℕ) (d : List ℕ) (r : Result ℕ Refusal) (e : List ℕ) → p ≡ instant_of y → m ≡ moment_of z
    → Writes (moment_form p m) d r e → Writes (transition_form y z) d r e
as-transition y z p m d r e i j w = rw j at (rw i at w)
