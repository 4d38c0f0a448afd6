-- Two strings that differ at a place or in a part, or are the same part by part. Assumes nothing.
use mathlib.Core.Path.{◌≡◌, refl, sym, ◌∙◌, ap, ap₂}
use mathlib.Core.Bool.{Bool, true, false}
use mathlib.Core.List.{List, ◌++◌}
use Prim.Native.Nat.{ℕ, max, ◌+◌, ◌-◌, ◌≤◌}
use native.Mathlib.Omega.{arith}
use lib.ListN.{length, get_or, take, drop, take-append-drop}
use lib.Seq.{take-add}
use lib.Dec.{eqb}
use borrow.Author.Tests.{ne_eqb}
use Rattle.base.specs.Pick.{pick}
use Rattle.base.specs.Equal.{equal}
use Rattle.base.proofs.Parts.{part-from}
use Rattle.base.proofs.Tests.{never}
use Rattle.base.proofs.EqualLaws.{equal-true, equal-refl, equal_is}

-- any mark but 0 tells that bytes differ
pub mark-tells : (m : ℕ) (t : Bool) → eqb (max m (pick t 0 255)) 0 ≡ eqb (max m (pick t 0 1)) 0
mark-tells m true = refl
mark-tells m false = ne_eqb (max m 255) 0 (λ q. omega arith) ∙ sym (ne_eqb (max m 1) 0 (λ q. omega arith))

-- bytes at one place differ
pub byte-differs : (a b : List ℕ) (p : ℕ) → (get_or a p 0 ≡ get_or b p 0 → ⊥) → false ≡ equal a b
byte-differs a b p n = go (equal a b) refl
  where
    go : (t : Bool) → equal a b ≡ t → false ≡ t
    go true e = absurd (n (ap (λ x. get_or x p 0) (equal-true a b e)))
    go false e = refl

-- the bytes from the place i up to e differ
pub part-differs : (a b : List ℕ) (i e : ℕ) (r : Bool) → r ≡ equal (take (e - i) (drop i a)) (take (e - i) (drop i b)) → r ≡ false → false ≡ equal a b
part-differs a b i e r q n = go (equal a b) refl
  where
    go : (t : Bool) → equal a b ≡ t → false ≡ t
    go true h = never (q ∙ ap (λ x. equal (take (e - i) (drop i a)) (take (e - i) (drop i x))) (sym (equal-true a b h)) ∙ equal-refl _) n
    go false h = refl

-- two strings that are the same up to the place i
module _ (a b : List ℕ) (i : ℕ) (front : take i a ≡ take i b) where
  pub part_same : (e : ℕ) → i ≤ e → (r : Bool) → r ≡ equal (take (e - i) (drop i a)) (take (e - i) (drop i b)) → r ≡ true → take e a ≡ take e b
  part_same e l r q t =
      let z : i + (e - i) ≡ e = omega arith in
      let w = equal-true (take (e - i) (drop i a)) (take (e - i) (drop i b)) (sym q ∙ t) in
      ap (λ n. take n a) (sym z) ∙ take-add i (e - i) a ∙ ap₂ ◌++◌ front w ∙ sym (take-add i (e - i) b) ∙ ap (λ n. take n b) z

  pub rest-decides : (r : Bool) → r ≡ equal (take (length a - i) (drop i a)) (take (length b - i) (drop i b)) → r ≡ equal a b
  rest-decides r q =
      let p : r ≡ equal (drop i a) (drop i b) = rw (part-from i a, part-from i b) at q in
      equal_is r a b (
        (λ t. sym (take-append-drop i a) ∙ ap₂ ◌++◌ front (equal-true (drop i a) (drop i b) (sym p ∙ t)) ∙ take-append-drop i b),
        (λ e. p ∙ ap (λ x. equal (drop i a) (drop i x)) (sym e) ∙ equal-refl _),
      )
