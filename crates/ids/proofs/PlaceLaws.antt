-- Laws of the places at which the numbers of strings stand. Assumes nothing.
use mathlib.Core.Path.{◌≡◌, refl, sym, ◌∙◌, ap}
use mathlib.Core.List.{List, []}
use mathlib.Core.Bool.{Bool, true, false}
use Prim.Native.Nat.{ℕ, zero, suc, ◌<◌}
use native.Mathlib.Omega.{arith}
use native.Mathlib.Nat.{not-suc-le-zero}
use lib.ListN.{get_or}
use Rattle.base.specs.Pick.{pick}
use Rattle.base.specs.Equal.{equal}
use Rattle.base.proofs.Tests.{clash, never, by_order, pick_same}
use Rattle.base.proofs.EqualLaws.{equal-true, equal-refl}
use Rattle.string_order.specs.Order.{ordering}
use Rattle.std.specs.declared.cmp.Ordering.TheVariants.{Less, Equal}
use Rattle.string_order.proofs.OrderLaws.{ordering-refl}
use Rattle.ids.specs.Ids.{among}
use Rattle.ids.specs.Memory.{text_at, texts_of, Between, Numbered}

not-less : (a b : List ℕ) → a ≡ b → ordering a b ≡ Less → ⊥
not-less a b e l = let z : Equal ≡ Less = sym (ordering-refl a) ∙ ap (ordering a) e ∙ l in clash cc

-- the number of x stands at one of the first n places
pub record At (ts : List (List ℕ)) (od : List ℕ) (n : ℕ) (x : List ℕ) : Type 0 where
  pub place : ℕ
  pub inside : place < n
  pub is : text_at ts od place ≡ x

module _ (ts : List (List ℕ)) (od : List ℕ) where
  pub among-at : (n i : ℕ) (x : List ℕ) → i < n → text_at ts od i ≡ x → among x (texts_of ts od n) ≡ true
  unfolding among texts_of
  among-at zero i x h e = absurd (not-suc-le-zero h)
  among-at (suc n) i x h e =
      by_order i n
      (λ l. rw (among-at n i x l e) (pick_same (equal (text_at ts od n) x) true))
      (λ l. let z : i ≡ n = omega arith in
      let q : text_at ts od n ≡ x = ap (text_at ts od) (sym z) ∙ e in
      rw (q, equal-refl x))

  pub numbered-among : (n : ℕ) (x : List ℕ) (k : ℕ) → Numbered ts od n x k → among x (texts_of ts od n) ≡ true
  numbered-among n x k a = among-at n a.place x a.inside (ap (λ (j : ℕ). get_or ts j []) a.number ∙ a.is)

  pub at-among : (n : ℕ) (x : List ℕ) → among x (texts_of ts od n) ≡ true → At ts od n x
  unfolding among texts_of
  at-among zero x e = never refl (sym e)
  at-among (suc n) x e = go (equal (text_at ts od n) x) refl e (at-among n x)
    where
      go : (t : Bool) → equal (text_at ts od n) x ≡ t → pick t true (among x (texts_of ts od n)) ≡ true
          → (among x (texts_of ts od n) ≡ true → At ts od n x) → At ts od (suc n) x
      go true q h rec = record { place = n; inside = omega arith; is = equal-true (text_at ts od n) x q }
      go false q h rec = let r = rec h in record { place = r.place; inside = omega (arith, r.inside); is = r.is }

  -- a string that belongs between two others is not there
  pub between-new : (n : ℕ) (x : List ℕ) (p : ℕ) → Between ts od n x p → among x (texts_of ts od n) ≡ false
  between-new n x p b = go (among x (texts_of ts od n)) refl
    where
      go : (t : Bool) → among x (texts_of ts od n) ≡ t → t ≡ false
      go false e = refl
      go true e =
          let a = at-among n x e in
          by_order a.place p
          (λ l. absurd (not-less _ x a.is (b.below a.place l)))
          (λ l. absurd (not-less x _ (sym a.is) (b.above a.place l a.inside)))
