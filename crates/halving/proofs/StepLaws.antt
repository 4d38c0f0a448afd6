-- One look of halving. Assumes nothing.
use Rattle.base.specs.declared.Refusal.TheVariants.{NotFound}
use Rattle.std.specs.Prelude.{Err, Ok}
use mathlib.Core.Path.{◌≡◌, refl, sym, ◌∙◌}
use mathlib.Core.Bool.{Bool, true, false}
use mathlib.Core.List.{List}
use Prim.Native.Nat.{ℕ, zero, suc, ◌+◌, ◌-◌, ◌*◌, ◌/◌, ◌≤◌, ◌<◌}
use native.Mathlib.Nat.{add-zero}
use native.Mathlib.Omega.{arith}
use lib.IntN.{ℤ, pos}
use lib.Signed.{le_z}
use lib.ListN.{length, get_or}
use borrow.Author.Tests.{lt-ltb, le-ltb, eq-eqb, ne_eqb}
use Rattle.base.specs.Pick.{pick}
use Rattle.base.proofs.Tests.{by_order}
use Rattle.halving.specs.Halving.{halve, find_start}
use Rattle.halving.specs.Looks.{Standing}

-- both parts of n entries are some, and fewer
pub record Halved (n : ℕ) : Type 0 where
  pub some : 0 < n / 2
  pub fewer : n / 2 + 1 ≤ n
  pub rest : n - n / 2 + 1 ≤ n

pub halved : (n : ℕ) → 1 < n → Halved n
halved n h = record { some = omega arith; fewer = omega arith; rest = omega arith }

-- what the code computes by j, 1 or 0, fits, and is fewer
pub record Counted (n j : ℕ) : Type 0 where
  pub one : j ≤ 1
  pub least : n / 2 ≤ n / 2 * (1 + j)
  pub most : n / 2 * (1 + j) ≤ n
  pub fewer : (n + j) / 2 + 1 ≤ n

counted : (n j : ℕ) → 1 < n → j ≤ 1 → Counted n j
counted n zero h l = record { one = l; least = omega arith; most = omega arith; fewer = omega arith }
counted n (suc zero) h l = record { one = l; least = omega arith; most = omega arith; fewer = omega arith }
counted n (suc (suc j)) h l = absurd (omega arith)

pick-one : (b : Bool) → pick b 1 0 ≤ 1
pick-one true = omega arith
pick-one false = omega arith

twice : (a b : ℕ) → a + b * (1 + 1) - b ≡ a + b
twice a b = omega arith

once : (a b : ℕ) → a + b * (1 + 0) - b ≡ a
once a b = omega arith

upper : (n : ℕ) → (n + 1) / 2 ≡ n - n / 2
upper n = omega arith

module _ (xs : List ℤ) (z : ℤ) where
  -- a table that is empty is refused
  pub find-some : 0 < length xs → find_start xs z ≡ halve (length xs) xs z 0 (length xs) 0
  unfolding find_start
  find-some h = rw (ne_eqb (length xs) 0 (omega arith)) refl

  -- one entry is left
  pub halve-one : (m low n k : ℕ) → n ≤ 1 → halve m xs z low n k ≡ Ok (low, k)
  unfolding halve
  halve-one zero low n k h = refl
  halve-one (suc m) low n k h = rw (le-ltb 1 n h) refl

  look : (m low n k : ℕ) → 1 < n
      → halve (suc m) xs z low n k
      ≡ pick (le_z (get_or xs (low + n / 2) (pos 0)) z) (halve m xs z (low + n / 2) (n - n / 2) (k + 1)) (halve m xs z low (n / 2) (k + 1))
  unfolding halve
  look m low n k h = rw (lt-ltb 1 n h) refl

  -- a bound on the looks that is no less than the entries left is none
  pub halve-more : (m m' low n k : ℕ) → n ≤ m → n ≤ m' → halve m xs z low n k ≡ halve m' xs z low n k
  halve-more zero m' low n k a b = halve-one zero low n k (omega arith) ∙ sym (halve-one m' low n k (omega arith))
  halve-more (suc m) zero low n k a b = halve-one (suc m) low n k (omega arith) ∙ sym (halve-one zero low n k (omega arith))
  halve-more (suc m) (suc m') low n k a b =
      by_order 1 n
      (λ (h : 1 < n).
      let d : Halved n = halved n h in
      look m low n k h
      ∙ rw (
        halve-more m m' (low + n / 2) (n - n / 2) (k + 1) (omega (arith, d.rest)) (omega (arith, d.rest)),
        halve-more m m' low (n / 2) (k + 1) (omega (arith, d.fewer)) (omega (arith, d.fewer)),
      ) (sym (look m' low n k h)))
      (λ h. halve-one (suc m) low n k h ∙ sym (halve-one (suc m') low n k h))

  module _ (low n k : ℕ) (h : 1 < n) where
    d : Halved n
    d = halved n h

    next : halve n xs z low n k
        ≡ pick (le_z (get_or xs (low + n / 2) (pos 0)) z) (halve (n - 1) xs z (low + n / 2) (n - n / 2) (k + 1)) (halve (n - 1) xs z low (n / 2) (k + 1))
    next = let e : n ≡ suc (n - 1) = omega arith in halve-more n (suc (n - 1)) low n k (omega arith) (omega arith) ∙ look (n - 1) low n k h

    -- the entry looked at isn't after the instant
    pub halve-keeps : le_z (get_or xs (low + n / 2) (pos 0)) z ≡ true → halve n xs z low n k ≡ halve (n - n / 2) xs z (low + n / 2) (n - n / 2) (k + 1)
    halve-keeps e =
        next ∙ rw e (halve-more (n - 1) (n - n / 2) (low + n / 2) (n - n / 2) (k + 1) (omega (arith, d.rest)) (omega arith))

    -- it is after the instant
    pub halve-drops : le_z (get_or xs (low + n / 2) (pos 0)) z ≡ false → halve n xs z low n k ≡ halve (n / 2) xs z low (n / 2) (k + 1)
    halve-drops e = next ∙ rw e (halve-more (n - 1) (n / 2) low (n / 2) (k + 1) (omega (arith, d.fewer)) (omega arith))

  abbrev Stands : ℕ → ℕ → ℕ → Type 0
  Stands low n k = Standing xs z low n k

  pub standing-start : (length xs ≡ 0 → ⊥) → Stands 0 (length xs) 0
  standing-start h = record { some = omega arith; inside = omega arith; few = omega arith; same = find-some (omega arith) }

  module _ (low n k : ℕ) (g : Stands low n k) where
    module _ (h : 1 < n) where
      pub standing-kept : le_z (get_or xs (low + n / 2) (pos 0)) z ≡ true → Stands (low + n / 2) (n - n / 2) (k + 1)
      standing-kept e =
          let d : Halved n = halved n h in
          record {
            some = omega (arith, d.fewer);
            inside = omega (arith, g.inside, d.fewer);
            few = omega (arith, g.few, d.rest);
            same = g.same ∙ halve-keeps low n k h e;
          }

      pub standing-before : le_z (get_or xs (low + n / 2) (pos 0)) z ≡ false → Stands low (n / 2) (k + 1)
      standing-before e =
          let d : Halved n = halved n h in
          record {
            some = d.some;
            inside = omega (arith, g.inside, d.fewer);
            few = omega (arith, g.few, d.fewer);
            same = g.same ∙ halve-drops low n k h e;
          }

      -- j says whether the entry looked at is kept
      pub standing-counted : (j : ℕ) → j ≡ pick (le_z (get_or xs (low + n / 2) (pos 0)) z) 1 0 → Counted n j
      standing-counted j is = counted n j h (rw is (pick-one (le_z (get_or xs (low + n / 2) (pos 0)) z)))

      pub standing-next : (j : ℕ) → j ≡ pick (le_z (get_or xs (low + n / 2) (pos 0)) z) 1 0 → Stands (low + n / 2 * (1 + j) - n / 2) ((n + j) / 2) (k + 1)
      standing-next j is = go (le_z (get_or xs (low + n / 2) (pos 0)) z) refl
        where
          go : (t : Bool) → le_z (get_or xs (low + n / 2) (pos 0)) z ≡ t → Stands (low + n / 2 * (1 + j) - n / 2) ((n + j) / 2) (k + 1)
          go true e = rw (is, e, twice low (n / 2), upper n) (standing-kept e)
          go false e = rw (is, e, once low (n / 2), add-zero n) (standing-before e)

    pub standing-done : n ≤ 1 → Ok (low, k) ≡ find_start xs z
    standing-done h = sym (g.same ∙ halve-one n low n k h)

pub find_none : (xs : List ℤ) (z : ℤ) → length xs ≡ 0 → Err (NotFound, 0) ≡ find_start xs z
unfolding find_start
find_none xs z h = rw (eq-eqb (length xs) 0 h) refl
