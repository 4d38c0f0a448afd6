-- A transition of two bytes of hours and the three bytes behind it. Assumes nothing.
use mathlib.Core.Path.{◌≡◌, refl, sym, ◌∙◌}
use mathlib.Core.List.{List, [], ◌∷◌, ◌++◌}
use Prim.Native.Nat.{ℕ, suc, ◌+◌, ◌/◌, ◌%◌, ◌≤◌, ◌<◌}
use native.Mathlib.Omega.{arith}
use lib.ListN.{length, get_or, set}
use borrow.Author.Tests.{lt-ltb, le-ltb, ne_eqb}
use Rattle.base.specs.Moment.{end_of_time}
use Rattle.counts.specs.Groups.{write_groups}
use Rattle.counts.specs.Count.{write_count}
use Rattle.transitions.specs.Transition.{hours_to, count_to, write_moment}
use Rattle.transitions.proofs.MomentLaws.{hours-to, count-hours, write-instant}
use Rattle.pieces.specs.View.{Put}

-- the form of an instant that is a count of hours
module _ (p m v : ℕ) (l : m < end_of_time) (e : v ≡ hours_to p m) (h : 0 < v) where
  some : hours_to p m ≡ 0 → ⊥
  some k = omega arith

  pub hours-many : 128 ≤ v
  hours-many = omega (arith, (hours-to p m some).1.low)

  pub hours-form : write_moment p m ≡ write_count v
  hours-form =
      let u = hours-to p m some in
      let k : v ≡ count_to p m = count-hours p m v e (λ z. omega arith) in
      write-instant p m (record { low = omega (arith, u.0.low, u.1.sum); high = omega arith })
      ∙ rw (← k, ne_eqb v 0 (λ z. omega arith)) refl

-- the five bytes
module _ (v : ℕ) (l : 128 ≤ v) (h : v < 16384) where
  count-two : write_count v ≡ (128 + v % 128) ∷ v / 128 ∷ []
  unfolding write_groups
  count-two = rw (le-ltb v 128 l, lt-ltb (v / 128) 128 (omega arith)) refl

  pub put_five : (s d : List ℕ) → length s ≡ 3 → 5 ≤ length d
      → Put (write_count v ++ s) d 5 (set (set (set (set (set d 0 (128 + v % 128)) 1 (v / 128)) 2 (get_or s 0 0)) 3 (get_or s 1 0)) 4 (get_or s 2 0))
  put_five (a ∷ b ∷ c ∷ []) (x ∷ y ∷ z ∷ t ∷ u ∷ d) i j = rw count-two (record { size = refl; left = refl })
  put_five [] d i j = absurd (omega arith)
  put_five (a ∷ []) d i j = absurd (omega arith)
  put_five (a ∷ b ∷ []) d i j = absurd (omega arith)
  put_five (a ∷ b ∷ c ∷ e ∷ s) d i j = absurd (omega arith)
  put_five (a ∷ b ∷ c ∷ []) [] i j = absurd (omega arith)
  put_five (a ∷ b ∷ c ∷ []) (x ∷ []) i j = absurd (omega arith)
  put_five (a ∷ b ∷ c ∷ []) (x ∷ y ∷ []) i j = absurd (omega arith)
  put_five (a ∷ b ∷ c ∷ []) (x ∷ y ∷ z ∷ []) i j = absurd (omega arith)
  put_five (a ∷ b ∷ c ∷ []) (x ∷ y ∷ z ∷ t ∷ []) i j = absurd (omega arith)

  pub five-room : (p m : ℕ) (s d : List ℕ) → write_moment p m ≡ write_count v → length s ≡ 3 → length (write_moment p m ++ s) ≤ length d → 5 ≤ length d
  five-room p m s d f i k = let z : suc (suc (length s)) ≤ length d = rw (f, count-two) at k in omega arith
