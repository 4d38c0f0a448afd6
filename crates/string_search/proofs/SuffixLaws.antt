-- What stands behind something that was read. Assumes nothing.
use mathlib.Core.Path.{◌≡◌, refl, sym, ap, ◌∙◌}
use mathlib.Core.List.{List}
use Prim.Native.Nat.{ℕ, ◌+◌, ◌-◌, ◌≤◌}
use native.Mathlib.Omega.{arith}
use lib.ListN.{length, drop, length-drop, drop_of_length-le}
use lib.Seq.{drop-drop}
use Rattle.base.proofs.Tests.{by_order}

-- the place of what stands from a place on
pub place-of : (s : List ℕ) (e : ℕ) → e ≤ length s → length s - length (drop e s) ≡ e
place-of s e h = rw length-drop (omega arith)

-- r is what stands in s from some place on
pub record Suffix (s r : List ℕ) : Type 0 where
  pub place : ℕ
  pub inside : place ≤ length s
  pub is : r ≡ drop place s

pub suffix-all : (s : List ℕ) → Suffix s s
suffix-all s = record { place = 0; inside = omega arith; is = refl }

pub suffix-drop : (s : List ℕ) (n : ℕ) → Suffix s (drop n s)
suffix-drop s n =
    by_order (length s) n
    (λ l.
    let m : length s ≤ n = omega arith in
    let e : length s ≤ length s = omega arith in
    record { place = length s; inside = e; is = drop_of_length-le s m ∙ sym (drop_of_length-le s e) })
    (λ l. record { place = n; inside = l; is = refl })

pub suffix-then : (s r q : List ℕ) → Suffix s r → Suffix r q → Suffix s q
suffix-then s r q a b =
    let l : length r ≡ length s - a.place = ap length a.is ∙ length-drop a.place s in
    record {
      place = a.place + b.place;
      inside = omega (arith, a.inside, b.inside);
      is = b.is ∙ ap (drop b.place) a.is ∙ drop-drop b.place a.place s;
    }

-- its place is told by its length
pub suffix-place : (s r : List ℕ) (f : Suffix s r) → length s - length r ≡ f.place
suffix-place s r f = ap (λ (l : List ℕ). length s - length l) f.is ∙ place-of s f.place f.inside
