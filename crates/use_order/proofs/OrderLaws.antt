-- What the order is: each used number once and no other (`each-once`), the most used first, ties by number (`most-used-first`). Assumes nothing.
use mathlib.Core.Path.{◌≡◌, refl, sym, ap, ◌∙◌, subst}
use mathlib.Core.Logic.{◌⊎◌, inl, inr}
use mathlib.Core.Bool.{Bool, true, false}
use mathlib.Core.List.{List, [], ◌∷◌}
use Prim.Native.Nat.{ℕ, zero, suc, ◌+◌, ◌-◌, ◌*◌, ◌%◌, ◌≤◌, ◌<◌}
use native.Mathlib.Nat.{zero-add}
use native.Mathlib.Omega.{arith}
use lib.ListN.{length, get_or}
use lib.Dec.{leb, ltb, eqb}
use borrow.Author.Tests.{eq-eqb, ne_eqb, ltb-true, ltb-false}
use Rattle.base.specs.Pick.{pick}
use Rattle.sorting.specs.Sort.{insert, sort_of, times}
use Rattle.use_order.specs.Order.{key_of, keys_from, numbers_of, order_of}
use Rattle.sorting.proofs.SortLaws.{Ascends, more, sort-ascends}

-- ---- a sum over a list is that over the sorted one
sum : (ℕ → ℕ) → List ℕ → ℕ
sum f [] = 0
sum f (x ∷ l) = f x + sum f l

sum-insert : (f : ℕ → ℕ) (x : ℕ) (l : List ℕ) → sum f (insert x l) ≡ f x + sum f l
unfolding sum insert
sum-insert f x [] = refl
sum-insert f x (y ∷ l) = go (leb x y) (sum-insert f x l)
  where
    go : (t : Bool) → sum f (insert x l) ≡ f x + sum f l → sum f (pick t (x ∷ (y ∷ l)) (y ∷ insert x l)) ≡ f x + (f y + sum f l)
    go true e = refl
    go false e = omega arith

sum-sorted : (f : ℕ → ℕ) (l : List ℕ) → sum f (sort_of l) ≡ sum f l
unfolding sum sort_of
sum-sorted f [] = refl
sum-sorted f (x ∷ l) = sum-insert f x (sort_of l) ∙ ap (λ (n : ℕ). f x + n) (sum-sorted f l)

as-sum : (k : ℕ) (l : List ℕ) → times k (numbers_of l) ≡ sum (λ x. pick (eqb (x % 8192) k) 1 0) l
unfolding sum times numbers_of
as-sum k [] = refl
as-sum k (x ∷ l) = ap (λ (n : ℕ). pick (eqb (x % 8192) k) 1 0 + n) (as-sum k l)

-- ---- each used number once
pub key-number : (u k : ℕ) → k < 8192 → key_of u k % 8192 ≡ k
key-number u k h = let n = 4294967295 - u in omega arith

below : (k j : ℕ) (l : List ℕ) → k < j → j + length l ≤ 8192 → times k (numbers_of (keys_from j l)) ≡ 0
unfolding times numbers_of keys_from
below k j [] h w = refl
below k j (u ∷ l) h w = go (ltb 0 u) (below k (suc j) l (omega arith) (omega arith))
  where
    go : (t : Bool) → times k (numbers_of (keys_from (suc j) l)) ≡ 0 → times k (numbers_of (pick t (key_of u j ∷ keys_from (suc j) l) (keys_from (suc j) l))) ≡ 0
    go true e = rw (key-number u j (omega arith), ne_eqb j k (λ q. omega arith), zero-add) e
    go false e = e

listed : (i j : ℕ) (l : List ℕ) → j + length l ≤ 8192 → times (j + i) (numbers_of (keys_from j l)) ≡ pick (ltb 0 (get_or l i 0)) 1 0
unfolding times numbers_of keys_from
listed i j [] w = refl
listed zero j (u ∷ l) w = go (ltb 0 u) (below (j + 0) (suc j) l (omega arith) (omega arith))
  where
    go : (t : Bool) → times (j + 0) (numbers_of (keys_from (suc j) l)) ≡ 0 → times (j + 0) (numbers_of (pick t (key_of u j ∷ keys_from (suc j) l) (keys_from (suc j) l))) ≡ pick t 1 0
    go true e = rw (key-number u j (omega arith), eq-eqb j (j + 0) (omega arith), e)
    go false e = e
listed (suc i) j (u ∷ l) w = go (ltb 0 u) (listed i (suc j) l (omega arith))
  where
    same : suc j + i ≡ j + suc i
    same = omega arith

    go : (t : Bool) → times (suc j + i) (numbers_of (keys_from (suc j) l)) ≡ pick (ltb 0 (get_or l i 0)) 1 0
        → times (j + suc i) (numbers_of (pick t (key_of u j ∷ keys_from (suc j) l) (keys_from (suc j) l))) ≡ pick (ltb 0 (get_or l i 0)) 1 0
    go true e = rw (key-number u j (omega arith), ne_eqb j (j + suc i) (λ q. omega arith), zero-add) (subst (λ (n : ℕ). times n (numbers_of (keys_from (suc j) l)) ≡ pick (ltb 0 (get_or l i 0)) 1 0) same e)
    go false e = subst (λ (n : ℕ). times n (numbers_of (keys_from (suc j) l)) ≡ pick (ltb 0 (get_or l i 0)) 1 0) same e

pub each-once : (uses : List ℕ) → length uses ≤ 8192 → (k : ℕ) → times k (order_of uses) ≡ pick (ltb 0 (get_or uses k 0)) 1 0
unfolding order_of
each-once uses h k =
    as-sum k (sort_of (keys_from 0 uses)) ∙ sum-sorted _ (keys_from 0 uses) ∙ sym (as-sum k (keys_from 0 uses))
    ∙ subst (λ (n : ℕ). times n (numbers_of (keys_from 0 uses)) ≡ pick (ltb 0 (get_or uses k 0)) 1 0) (let z : 0 + k ≡ k = omega arith in z) (listed k 0 uses (omega arith))

-- ---- the most used first
-- a key of `uses`
abbrev Key : List ℕ → ℕ → Type 0
Key uses x = x ≡ key_of (get_or uses (x % 8192) 0) (x % 8192)

data Keys (uses : List ℕ) : List ℕ → Type 0 where
  no_keys : Keys uses []
  and-key : {x : ℕ} {l : List ℕ} → Key uses x → Keys uses l → Keys uses (x ∷ l)

keys-insert : (uses : List ℕ) (x : ℕ) (l : List ℕ) → Key uses x → Keys uses l → Keys uses (insert x l)
unfolding insert
keys-insert uses x [] k h = and-key k no_keys
keys-insert uses x (y ∷ l) k (and-key j h) = go (leb x y) (keys-insert uses x l k h)
  where
    go : (t : Bool) → Keys uses (insert x l) → Keys uses (pick t (x ∷ (y ∷ l)) (y ∷ insert x l))
    go true r = and-key k (and-key j h)
    go false r = and-key j r

keys-sorted : (uses l : List ℕ) → Keys uses l → Keys uses (sort_of l)
unfolding sort_of
keys-sorted uses [] h = no_keys
keys-sorted uses (x ∷ l) (and-key k h) = keys-insert uses x (sort_of l) k (keys-sorted uses l h)

keys-are : (uses : List ℕ) (j : ℕ) (l : List ℕ) → j + length l ≤ 8192 → ((i : ℕ) → get_or l i 0 ≡ get_or uses (j + i) 0) → Keys uses (keys_from j l)
unfolding keys_from
keys-are uses j [] w h = no_keys
keys-are uses j (u ∷ l) w h = go (ltb 0 u) (keys-are uses (suc j) l (omega arith) (λ i. h (suc i) ∙ ap (λ (n : ℕ). get_or uses n 0) (let z : j + suc i ≡ suc j + i = omega arith in z)))
  where
    first : u ≡ get_or uses j 0
    first = h 0 ∙ ap (λ (n : ℕ). get_or uses n 0) (let z : j + 0 ≡ j = omega arith in z)

    go : (t : Bool) → Keys uses (keys_from (suc j) l) → Keys uses (pick t (key_of u j ∷ keys_from (suc j) l) (keys_from (suc j) l))
    go true r = and-key {x = key_of u j} (rw (key-number u j (omega arith)) (ap (λ (n : ℕ). key_of n j) first)) r
    go false r = r

-- k stands before l: more uses, or as many and no larger a number (no number is there twice)
abbrev pub Before : List ℕ → ℕ → ℕ → Type 0
Before uses k l = (get_or uses l 0 < get_or uses k 0) ⊎ ((get_or uses k 0 ≡ get_or uses l 0) × (k ≤ l))

pub data InOrder (uses : List ℕ) : List ℕ → Type 0 where
  none_left : InOrder uses []
  last : {k : ℕ} → InOrder uses (k ∷ [])
  then : {k l : ℕ} {ks : List ℕ} → Before uses k l → InOrder uses (l ∷ ks) → InOrder uses (k ∷ (l ∷ ks))

-- what the order of two keys says
keys-order : (u v k l : ℕ) → u ≤ 4294967295 → v ≤ 4294967295 → k < 8192 → l < 8192 → key_of u k ≤ key_of v l → (v < u) ⊎ ((u ≡ v) × (k ≤ l))
keys-order u v k l hu hv hk hl h = go (ltb v u) refl
  where
    go : (t : Bool) → ltb v u ≡ t → (v < u) ⊎ ((u ≡ v) × (k ≤ l))
    go true e = inl (ltb-true v u e)
    go false e = inr (omega (arith, ltb-false v u e), omega (arith, ltb-false v u e))

-- the keys of uses, without a limit for these: what a key counts down to is no less behind it
left-rises : (uses l : List ℕ) → Ascends l → Keys uses l → (j : ℕ) → suc j < length (numbers_of l)
    → 4294967295 - get_or uses (get_or (numbers_of l) j 0) 0 ≤ 4294967295 - get_or uses (get_or (numbers_of l) (suc j) 0) 0
unfolding numbers_of
left-rises uses [] a h j i = absurd (omega arith)
left-rises uses (x ∷ []) a h j i = absurd (omega arith)
left-rises uses (x ∷ (y ∷ l)) (more le a) (and-key p (and-key q h)) zero i =
    let u = 4294967295 - get_or uses (x % 8192) 0 in
    let v = 4294967295 - get_or uses (y % 8192) 0 in
    omega arith
left-rises uses (x ∷ (y ∷ l)) (more le a) (and-key p (and-key q h)) (suc j) i = left-rises uses (y ∷ l) a (and-key q h) j (omega arith)

sorted-keys : (uses : List ℕ) → length uses ≤ 8192 → Keys uses (sort_of (keys_from 0 uses))
sorted-keys uses h =
    keys-sorted uses (keys_from 0 uses) (keys-are uses 0 uses (omega arith) (λ i. ap (λ (n : ℕ). get_or uses n 0) (let z : i ≡ 0 + i = omega arith in z)))

pub order-falls : (uses : List ℕ) → length uses ≤ 8192 → (j : ℕ) → suc j < length (order_of uses)
    → 4294967295 - get_or uses (get_or (order_of uses) j 0) 0 ≤ 4294967295 - get_or uses (get_or (order_of uses) (suc j) 0) 0
unfolding order_of
order-falls uses h = left-rises uses (sort_of (keys_from 0 uses)) (sort-ascends (keys_from 0 uses)) (sorted-keys uses h)

module _ (uses : List ℕ) (fit : (i : ℕ) → get_or uses i 0 ≤ 4294967295) where
  numbers-ordered : (l : List ℕ) → Ascends l → Keys uses l → InOrder uses (numbers_of l)
  unfolding numbers_of
  numbers-ordered [] a h = none_left
  numbers-ordered (x ∷ []) a h = last
  numbers-ordered (x ∷ (y ∷ l)) (more le a) (and-key j (and-key k h)) =
      then (keys-order (get_or uses (x % 8192) 0) (get_or uses (y % 8192) 0) (x % 8192) (y % 8192) (fit (x % 8192)) (fit (y % 8192)) (omega arith) (omega arith) (subst (λ (q : ℕ). q ≤ key_of (get_or uses (y % 8192) 0) (y % 8192)) j (subst (λ (q : ℕ). x ≤ q) k le)))
      (numbers-ordered (y ∷ l) a (and-key k h))

  pub most-used-first : length uses ≤ 8192 → InOrder uses (order_of uses)
  unfolding order_of
  most-used-first h = numbers-ordered (sort_of (keys_from 0 uses)) (sort-ascends (keys_from 0 uses)) (sorted-keys uses h)
