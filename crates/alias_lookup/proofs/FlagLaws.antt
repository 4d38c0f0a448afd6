-- Laws of the strings with flags. Assumes nothing.
use mathlib.Core.Path.{◌≡◌, refl, sym}
use mathlib.Core.List.{List, [], ◌∷◌}
use mathlib.Core.Bool.{Bool, true, false}
use Prim.Native.Nat.{ℕ, zero, suc, ◌+◌, ◌≤◌, ◌<◌}
use native.Mathlib.Omega.{arith}
use native.Mathlib.Nat.{not-suc-le-zero}
use native.Mathlib.Numerals.{add-one}
use lib.ListN.{length, drop, get_or, set, replicate, drop_of_length-le}
use lib.Seq.{drop-cons, get_or-set_same, get_or-set_other}
use lib.Dec.{eqb}
use borrow.Author.Tests.{eq-eqb, ne_eqb}
use Rattle.base.specs.Pick.{pick}
use Rattle.base.specs.Equal.{equal}
use Rattle.base.proofs.Tests.{pick_same}
use Rattle.alias_lookup.specs.View.{flagged_from}

-- the flag at j, and those behind it
flagged-at : (ts : List (List ℕ)) (fl x : List ℕ) (j : ℕ) → j < length ts
    → flagged_from j (drop j ts) fl x
    ≡ pick (eqb (get_or fl j 0) 0) (flagged_from (j + 1) (drop (j + 1) ts) fl x)
    (pick (equal (get_or ts j []) x) true (flagged_from (j + 1) (drop (j + 1) ts) fl x))
unfolding flagged_from
flagged-at ts fl x j h = rw (drop-cons ts j [] h, add-one j)

pub flagged-end : (ts : List (List ℕ)) (fl x : List ℕ) (j : ℕ) → length ts ≤ j → flagged_from j (drop j ts) fl x ≡ false
unfolding flagged_from
flagged-end ts fl x j h = rw (drop_of_length-le ts h)

module _ (ts : List (List ℕ)) (fl x : List ℕ) (j : ℕ) (h : j < length ts) where
  pub unflagged-on : get_or fl j 0 ≡ 0 → flagged_from (j + 1) (drop (j + 1) ts) fl x ≡ flagged_from j (drop j ts) fl x
  unflagged-on n = sym (rw (eq-eqb (get_or fl j 0) 0 n) at (flagged-at ts fl x j h))

  -- r is what the comparison of the string j with x gave
  module _ (f : get_or fl j 0 ≡ 0 → ⊥) (r : Bool) (e : r ≡ equal (get_or ts j []) x) where
    pub flag-hit : r ≡ true → true ≡ flagged_from j (drop j ts) fl x
    flag-hit q = sym (rw (ne_eqb (get_or fl j 0) 0 f, ← e, q) at (flagged-at ts fl x j h))

    pub flag-on : r ≡ false → flagged_from (j + 1) (drop (j + 1) ts) fl x ≡ flagged_from j (drop j ts) fl x
    flag-on q = sym (rw (ne_eqb (get_or fl j 0) 0 f, ← e, q) at (flagged-at ts fl x j h))

or-twice : (a f h : Bool) → pick a true h ≡ pick a true (pick f h (pick a true h))
or-twice true f h = refl
or-twice false f h = sym (pick_same f h)

or_swap : (a f b h : Bool) → pick f (pick a true h) (pick b true (pick a true h)) ≡ pick a true (pick f h (pick b true h))
or_swap true f true h = pick_same f true
or_swap true f false h = pick_same f true
or_swap false f b h = refl

-- a flag before the strings does not matter
flagged-below : (i : ℕ) (ts : List (List ℕ)) (fl x : List ℕ) (m v : ℕ) → m < i → flagged_from i ts (set fl m v) x ≡ flagged_from i ts fl x
unfolding flagged_from
flagged-below i [] fl x m v h = refl
flagged-below i (y ∷ ts) fl x m v h = rw (flagged-below (suc i) ts fl x m v (omega arith), get_or-set_other fl m i v 0 (λ e. omega arith))

-- one flag more is one string more
pub flagged-set : (i : ℕ) (ts : List (List ℕ)) (fl x : List ℕ) (k v : ℕ) → k < length ts → i + k < length fl → (v ≡ 0 → ⊥)
    → flagged_from i ts (set fl (i + k) v) x ≡ pick (equal (get_or ts k []) x) true (flagged_from i ts fl x)
unfolding flagged_from
flagged-set i [] fl x k v h l n = absurd (not-suc-le-zero h)
flagged-set i (y ∷ ts) fl x zero v h l n =
    let z : i + 0 ≡ i = omega arith in
    let r : flagged_from (suc i) ts (set fl i v) x ≡ flagged_from (suc i) ts fl x = flagged-below (suc i) ts fl x i v (omega arith) in
    let s : get_or (set fl i v) i 0 ≡ v = get_or-set_same fl i v 0 (omega arith) in
    rw (z, s, ne_eqb v 0 n, r) (or-twice (equal y x) (eqb (get_or fl i 0) 0) (flagged_from (suc i) ts fl x))
flagged-set i (y ∷ ts) fl x (suc k) v h l n =
    let z : i + suc k ≡ suc i + k = omega arith in
    let r : flagged_from (suc i) ts (set fl (suc i + k) v) x ≡ pick (equal (get_or ts k []) x) true (flagged_from (suc i) ts fl x) =
    flagged-set (suc i) ts fl x k v (omega arith) (omega arith) n in
    let s : get_or (set fl (suc i + k) v) i 0 ≡ get_or fl i 0 = get_or-set_other fl (suc i + k) i v 0 (λ e. omega arith) in
    rw (z, s, r) (or_swap (equal (get_or ts k []) x) (eqb (get_or fl i 0) 0) (equal y x) (flagged_from (suc i) ts fl x))

pub unset : (n i : ℕ) → ◌≡◌ {A = ℕ} (get_or (replicate n 0) i 0) 0
unset zero i = refl
unset (suc n) zero = refl
unset (suc n) (suc i) = unset n i

-- no flag anywhere, no string
pub flagged-none : (i : ℕ) (ts : List (List ℕ)) (fl x : List ℕ) → ((j : ℕ) → ◌≡◌ {A = ℕ} (get_or fl j 0) 0) → flagged_from i ts fl x ≡ false
unfolding flagged_from
flagged-none i [] fl x h = refl
flagged-none i (y ∷ ts) fl x h = rw (h i, flagged-none (suc i) ts fl x h)
