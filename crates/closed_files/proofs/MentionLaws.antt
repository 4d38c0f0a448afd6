-- The uses of a file's strings, and the strings of its closed file. Assumes nothing.
use mathlib.Core.Path.{◌≡◌, refl, ◌∙◌}
use mathlib.Core.Bool.{Bool, true, false}
use mathlib.Core.List.{List, [], ◌∷◌, ◌++◌}
use Prim.Native.Nat.{ℕ, zero, suc, ◌+◌, ◌≤◌, ◌<◌}
use native.Mathlib.Omega.{arith}
use lib.ListN.{length, get_or, replicate, length-replicate, get_or-replicate}
use lib.Dec.{ltb}
use Rattle.base.specs.Pick.{pick}
use Rattle.frames.specs.Frame.{Field}
use Rattle.sorting.specs.Sort.{times}
use Rattle.use_order.specs.Order.{mention_all, new_number}
use Rattle.use_order.proofs.OrderLaws.{InOrder, each-once, most-used-first}
use Rattle.use_order.proofs.NumberLaws.{uses-times, length-uses, new-number}
use Rattle.closed_files.specs.File.{mentions_in, uses_of, new_order, new_table, chosen}

abbrev no-uses : List ℕ
no-uses = replicate 8192 0

module _ (gs : List Field) where
  -- USES ARE COUNTS: the uses of a number are its mentions in the fields that are read
  pub uses-counted : (k : ℕ) → k < 8192 → get_or (uses_of gs) k 0 ≡ times k (mentions_in gs)
  uses-counted k h =
      let e : get_or (mention_all (mentions_in gs) no-uses) k 0 ≡ get_or no-uses k 0 + times k (mentions_in gs) = uses-times (mentions_in gs) no-uses k (rw (length-replicate {A = ℕ} 8192 0) h) in
      let z : get_or no-uses k 0 ≡ 0 = get_or-replicate {A = ℕ} 8192 k 0 0 h in
      e ∙ rw z (let y : 0 + times k (mentions_in gs) ≡ times k (mentions_in gs) = omega arith in y)

  uses-length : length (uses_of gs) ≡ 8192
  uses-length = length-uses (mentions_in gs) no-uses ∙ length-replicate {A = ℕ} 8192 0

  -- DROPPED OR ONCE: a used number stands in the order once, any other not at all
  pub order-once : (k : ℕ) → times k (new_order gs) ≡ pick (ltb 0 (get_or (uses_of gs) k 0)) 1 0
  order-once k = each-once (uses_of gs) (rw uses-length (omega arith)) k

  -- MOST USED FIRST, ties by old place
  pub order-sorted : ((k : ℕ) → get_or (uses_of gs) k 0 ≤ 4294967295) → InOrder (uses_of gs) (new_order gs)
  order-sorted h = most-used-first (uses_of gs) h (rw uses-length (omega arith))

  once-most : (k : ℕ) → times k (new_order gs) ≤ 1
  once-most k = rw (order-once k) (go (ltb 0 (get_or (uses_of gs) k 0)))
    where
      go : (t : Bool) → pick t 1 0 ≤ 1
      go true = omega arith
      go false = omega arith

  -- THE NEW NUMBER of a number of the order is its place there
  pub new-place : (j : ℕ) → j < length (new_order gs) → ((n : ℕ) → n < length (new_order gs) → get_or (new_order gs) n 0 < 8192) → new_number (new_table gs) (get_or (new_order gs) j 0) ≡ j
  new-place j h below =
      new-number 0 (new_order gs) no-uses j h once-most (λ n l. rw (length-replicate {A = ℕ} 8192 0) (below n l)) ∙ (let y : 0 + j ≡ j = omega arith in y)

-- the string at a place of those chosen
pub chosen_at : (ts : List (List ℕ)) (ks : List ℕ) (j : ℕ) → j < length ks → get_or (chosen ts ks) j [] ≡ get_or ts (get_or ks j 0) []
unfolding chosen
chosen_at ts [] j h = absurd (omega arith)
chosen_at ts (k ∷ ks) zero h = refl
chosen_at ts (k ∷ ks) (suc j) h = chosen_at ts ks j (omega arith)
