-- The test of equality says equality. Assumes nothing.
use mathlib.Core.Path.{◌≡◌, refl, sym, ap}
use mathlib.Core.List.{List, [], ◌∷◌}
use mathlib.Core.Bool.{Bool, true, false}
use Prim.Native.Nat.{ℕ, suc, ◌+◌, ◌≤◌, ◌<◌, max}
use native.Mathlib.Omega.{arith}
use native.Mathlib.Numerals.{add-one}
use lib.ListN.{length, get_or, drop, drop_of_length-le}
use lib.Seq.{drop-cons}
use lib.Dec.{eqb}
use borrow.Author.Tests.{eq-eqb, ne_eqb, eqb-true, eqb-false}
use Rattle.base.specs.Pick.{pick, both}
use Rattle.base.proofs.Tests.{never, both_left, both_right}
use Rattle.base.specs.Equal.{equal}

pub equal-true : (a b : List ℕ) → equal a b ≡ true → a ≡ b
unfolding equal
equal-true [] [] e = refl
equal-true [] (y ∷ b) e = never refl (sym e)
equal-true (x ∷ a) [] e = never refl (sym e)
equal-true (x ∷ a) (y ∷ b) e =
    let p : x ≡ y = eqb-true x y (both_left (eqb x y) (equal a b) e) in
    let q : a ≡ b = equal-true a b (both_right (eqb x y) (equal a b) e) in
    cc

pub equal-refl : (a : List ℕ) → equal a a ≡ true
unfolding equal
equal-refl [] = refl
equal-refl (x ∷ a) = rw (eq-eqb x x refl) (equal-refl a)

-- the loop that compares: m is not 0 where a byte before i differs
pub lengths_differ : (a b : List ℕ) → (length a ≡ length b → ⊥) → false ≡ equal a b
lengths_differ a b n = go (equal a b) refl
  where
    go : (t : Bool) → equal a b ≡ t → false ≡ t
    go true e = absurd (n (ap length (equal-true a b e)))
    go false e = refl

module _ (a b : List ℕ) (i m : ℕ) where
  pub bytes-at : i < length a → i < length b
      → pick (eqb (max m (pick (eqb (get_or a i 0) (get_or b i 0)) 0 1)) 0) (equal (drop (i + 1) a) (drop (i + 1) b)) false
      ≡ pick (eqb m 0) (equal (drop i a) (drop i b)) false
  unfolding equal
  bytes-at h l = rw (drop-cons a i 0 h, drop-cons b i 0 l, add-one i) (go (eqb m 0) (eqb (get_or a i 0) (get_or b i 0)) refl)
    where
      go : (t u : Bool) → eqb m 0 ≡ t
          → pick (eqb (max m (pick u 0 1)) 0) (equal (drop (suc i) a) (drop (suc i) b)) false
          ≡ pick t (both u (equal (drop (suc i) a) (drop (suc i) b))) false
      go true true e = let z : max m 0 ≡ 0 = omega (arith, eqb-true m 0 e) in rw (eq-eqb (max m 0) 0 z)
      go true false e = let z : max m 1 ≡ 0 → ⊥ = λ q. omega arith in rw (ne_eqb (max m 1) 0 z)
      go false true e = let n = eqb-false m 0 e in let z : max m 0 ≡ 0 → ⊥ = λ q. n (omega arith) in rw (ne_eqb (max m 0) 0 z)
      go false false e = let z : max m 1 ≡ 0 → ⊥ = λ q. omega arith in rw (ne_eqb (max m 1) 0 z)

  pub bytes-end : length a ≤ i → length b ≤ i → pick (eqb m 0) (equal (drop i a) (drop i b)) false ≡ eqb m 0
  unfolding equal
  bytes-end h l = rw (drop_of_length-le a h, drop_of_length-le b l) (go (eqb m 0))
    where
      go : (t : Bool) → pick t true false ≡ t
      go true = refl
      go false = refl

-- a test that is true exactly where two lists are equal is this test
pub equal_is : (r : Bool) (a b : List ℕ) → (r ≡ true → a ≡ b) × (a ≡ b → r ≡ true) → r ≡ equal a b
equal_is true a b (f, g) = rw (f refl) (sym (equal-refl b))
equal_is false a b (f, g) = go (equal a b) refl
  where
    go : (t : Bool) → equal a b ≡ t → false ≡ t
    go true e = g (equal-true a b e)
    go false e = refl
