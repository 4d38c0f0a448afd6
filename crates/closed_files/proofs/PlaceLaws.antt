-- A mentioned number stands in the order at its new number. Assumes nothing.
use mathlib.Core.Path.{◌≡◌, refl, sym, ap, ◌∙◌}
use mathlib.Core.Bool.{Bool, true, false}
use mathlib.Core.List.{List, [], ◌∷◌}
use Prim.Native.Nat.{ℕ, zero, suc, ◌+◌, ◌≤◌, ◌<◌}
use native.Mathlib.Omega.{arith}
use lib.ListN.{length, get_or, replicate, length-replicate, get_or-replicate, get_or-eq_default}
use lib.Dec.{eqb}
use borrow.Author.Tests.{eq-eqb, eqb-true, lt-ltb}
use Rattle.base.specs.Pick.{pick}
use Rattle.base.specs.All.{All, all_none, all-also}
use Rattle.base.proofs.AllLaws.{all_head, all_tail, all_map}
use Rattle.base.proofs.Tests.{by_order}
use Rattle.frames.specs.Frame.{Field}
use Rattle.sorting.specs.Sort.{sort_of, times}
use Rattle.sorting.proofs.SortLaws.{length-sorted}
use Rattle.use_order.specs.Order.{keys_from, numbers_of, order_of, new_number}
use Rattle.use_order.proofs.FillLaws.{length-numbers, length-keys}
use Rattle.use_order.proofs.NumberLaws.{length-uses, numbered-most}
use Rattle.mentions.specs.Renumbers.{Renumbers}
use Rattle.closed_files.specs.File.{mentions_in, uses_of, new_order, new_table, chosen}
use Rattle.closed_files.proofs.MentionLaws.{uses-counted, order-once, new-place, chosen_at}
use Rattle.closed_files.proofs.PoolLaws.{length-chosen}

-- ---- where a number stands in a list
record Standing (k : ℕ) (l : List ℕ) : Type 0 where
  place : ℕ
  within : place < length l
  is : get_or l place 0 ≡ k

standing : (k : ℕ) (l : List ℕ) → 1 ≤ times k l → Standing k l
unfolding times
standing k [] h = absurd (omega arith)
standing k (x ∷ l) h = go (eqb x k) refl h (standing k l)
  where
    go : (t : Bool) → eqb x k ≡ t → 1 ≤ pick t 1 0 + times k l → (1 ≤ times k l → Standing k l) → Standing k (x ∷ l)
    go true e i r = record { place = 0; within = omega arith; is = eqb-true x k e }
    go false e i r = let s = r (omega arith) in record { place = suc s.place; within = omega (arith, s.within); is = s.is }

pub stands-once : (l : List ℕ) (j : ℕ) → j < length l → 1 ≤ times (get_or l j 0) l
unfolding times
stands-once [] j h = absurd (omega arith)
stands-once (x ∷ l) zero h = rw (eq-eqb x x refl) (omega arith)
stands-once (x ∷ l) (suc j) h = omega (arith, stands-once l j (omega arith))

each_stands : (ks : List ℕ) → All (λ k. 1 ≤ times k ks) ks
unfolding times
each_stands [] = all_none
each_stands (x ∷ ks) = all-also {x = x} (rw (eq-eqb x x refl) (omega arith)) (all_map (λ k (h : 1 ≤ times k ks). omega arith) (each_stands ks))

-- ---- the order and its table
numbers-below : (l : List ℕ) (j : ℕ) → get_or (numbers_of l) j 0 < 8192
unfolding numbers_of
numbers-below [] j = omega arith
numbers-below (x ∷ l) zero = omega arith
numbers-below (x ∷ l) (suc j) = numbers-below l j

-- a number's new number is its place in the order
pub record Placed (order table : List ℕ) (k : ℕ) : Type 0 where
  pub inside : new_number table k < length order
  pub is : get_or order (new_number table k) 0 ≡ k

module _ (gs : List Field) where
  pub length-uses-of : length (uses_of gs) ≡ 8192
  length-uses-of = length-uses (mentions_in gs) (replicate 8192 0) ∙ length-replicate {A = ℕ} 8192 0

  pub order-few : length (new_order gs) ≤ 8192
  unfolding order_of
  order-few =
      let keys = keys_from 0 (uses_of gs) in
      omega (arith, length-numbers (sort_of keys), length-sorted keys, length-keys 0 (uses_of gs), length-uses-of)

  pub order_below : (j : ℕ) → get_or (new_order gs) j 0 < 8192
  unfolding order_of
  order_below j = numbers-below (sort_of (keys_from 0 (uses_of gs))) j

  pub number_small : (k : ℕ) → new_number (new_table gs) k ≤ 8192
  number_small = numbered-most 0 8192 (new_order gs) (replicate 8192 0) (omega (arith, order-few)) (λ k.
      by_order k 8192 (λ l. rw (get_or-replicate {A = ℕ} 8192 k 0 0 l) (omega arith))
      (λ l. rw (get_or-eq_default {A = ℕ} (replicate 8192 0) 0 {n = k} (rw (length-replicate {A = ℕ} 8192 0) l)) (omega arith)))

  pub place-number : (j : ℕ) → j < length (new_order gs) → new_number (new_table gs) (get_or (new_order gs) j 0) ≡ j
  place-number j h = new-place gs j h (λ n l. order_below n)

  placed : (k : ℕ) → k < 8192 → 1 ≤ times k (mentions_in gs) → Placed (new_order gs) (new_table gs) k
  placed k h i =
      let once : times k (new_order gs) ≡ 1 = order-once gs k ∙ rw (lt-ltb 0 (get_or (uses_of gs) k 0) (rw (uses-counted gs k h) i)) in
      let s = standing k (new_order gs) (omega arith) in
      let e : new_number (new_table gs) k ≡ s.place = ap (new_number (new_table gs)) (sym s.is) ∙ place-number s.place s.within in
      record { inside = rw e s.within; is = rw e s.is }

  -- A MENTIONED NUMBER STANDS IN THE ORDER, at its new number
  pub mentioned-placed : All (λ k. k < 8192) (mentions_in gs) → All (Placed (new_order gs) (new_table gs)) (mentions_in gs)
  mentioned-placed h = go (mentions_in gs) h (each_stands (mentions_in gs))
    where
      go : (ks : List ℕ) → All (λ k. k < 8192) ks → All (λ k. 1 ≤ times k (mentions_in gs)) ks → All (Placed (new_order gs) (new_table gs)) ks
      go [] a b = all_none
      go (k ∷ ks) a b = all-also (placed k (all_head a) (all_head b)) (go ks (all_tail a) (all_tail b))

  -- so its string stands in the new pool under it
  pub mentioned-renumbers : (ts : List (List ℕ)) → All (λ k. k < 8192) (mentions_in gs)
      → All (Renumbers ts (chosen ts (new_order gs)) (new_number (new_table gs))) (mentions_in gs)
  mentioned-renumbers ts h = all_map (λ k (p : Placed (new_order gs) (new_table gs) k). record {
    inside = rw length-chosen p.inside;
    same = chosen_at ts (new_order gs) (new_number (new_table gs) k) p.inside ∙ ap (λ (n : ℕ). get_or ts n []) p.is;
  }) (mentioned-placed h)
