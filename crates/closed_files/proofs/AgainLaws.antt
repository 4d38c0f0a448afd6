-- Closing up the pool of a closed file changes nothing, and it has as many mentions as the file. Assumes nothing.
use mathlib.Core.Path.{◌≡◌, refl, sym, ap, ap₂, ◌∙◌}
use mathlib.Core.Bool.{Bool, true, false}
use mathlib.Core.List.{List, [], ◌∷◌, ◌++◌, map, map-append}
use Prim.Native.Nat.{ℕ, suc, ◌+◌, ◌≤◌, ◌<◌}
use native.Mathlib.Omega.{arith}
use lib.ListN.{length, get_or, length-map, get_or-eq_default}
use lib.Seq.{ext_get_or}
use lib.Dec.{eqb, ltb}
use borrow.Author.Tests.{eq-eqb, ne_eqb, eqb-true, eqb-false, ltb-true}
use Rattle.base.specs.Pick.{pick}
use Rattle.base.specs.All.{All, all_none, all-also}
use Rattle.base.proofs.AllLaws.{all_head, all_tail, all_map, all_left, all_right}
use Rattle.base.proofs.Tests.{by_order}
use Rattle.pool.specs.Pool.{strings_in, strings_of}
use Rattle.frames.specs.Frame.{Field}
use Rattle.sorting.specs.Sort.{times}
use Rattle.use_order.specs.Order.{new_number}
use Rattle.use_order.proofs.OrderLaws.{order-falls}
use Rattle.mentions.specs.Walk.{first_stage}
use Rattle.mentions.specs.Content.{numbers_of, renumbered}
use Rattle.mentions.proofs.AgainLaws.{numbers-renumbered, renumbered-twice, renumbered-alike, numbers-none-in}
use Rattle.closed_files.specs.File.{mentions_in, uses_of, new_order, new_table, chosen, write_pool, write_field, closed_data, closed_fields, closed_file}
use Rattle.closed_files.specs.Again.{ClosedAs, closed_none, closed-also, up_from}
use Rattle.closed_files.proofs.MentionLaws.{uses-counted, order-once, chosen_at}
use Rattle.closed_files.proofs.PoolLaws.{length-chosen, pool-reads-back}
use Rattle.closed_files.proofs.PlaceLaws.{Placed, stands-once, length-uses-of, order-few, order_below, number_small, place-number, mentioned-placed}
use Rattle.closed_files.proofs.OrderLaws.{Falls, length_up, up_at, order-up}

-- ---- the mentions of closed fields
all_of : {P : ℕ → Type 0} → ((k : ℕ) → P k) → (ks : List ℕ) → All P ks
all_of f [] = all_none
all_of f (k ∷ ks) = all-also (f k) (all_of f ks)

-- field 0 mentions nothing
pool-mentions-none : (i : ℕ) (d : List ℕ) → i ≡ 0 → numbers_of i d ≡ []
unfolding first_stage
pool-mentions-none i d e = numbers-none-in i d (ap first_stage e)

module _ (order table : List ℕ) (small : (k : ℕ) → new_number table k < 2147483648) where
  data-mentions : (i : ℕ) (d : List ℕ) → numbers_of i (closed_data order table i d) ≡ map (new_number table) (numbers_of i d)
  unfolding closed_data
  data-mentions i d = go (eqb i 0) refl
    where
      pool : List ℕ
      pool = write_pool (chosen (strings_of d) order)

      go : (t : Bool) → eqb i 0 ≡ t → numbers_of i (pick t pool (renumbered (new_number table) i d)) ≡ map (new_number table) (numbers_of i d)
      go true e =
          let z : i ≡ 0 = eqb-true i 0 e in
          pool-mentions-none i pool z ∙ sym (ap (map (new_number table)) (pool-mentions-none i d z))
      go false e = numbers-renumbered (new_number table) i d (all_of small (numbers_of i d))

  fields-mentions : {gs hs : List Field} → ClosedAs order table gs hs → mentions_in hs ≡ map (new_number table) (mentions_in gs)
  unfolding mentions_in
  fields-mentions closed_none = refl
  fields-mentions (closed-also {g = g} {h = h} {gs = gs} i d c) =
      ap₂ ◌++◌ (ap₂ numbers_of i d ∙ data-mentions g.id g.body) (fields-mentions c)
      ∙ sym (map-append (new_number table) (numbers_of g.id g.body) (mentions_in gs))

module _ (gs hs : List Field) (c : ClosedAs (new_order gs) (new_table gs) gs hs) where
  -- THE MENTIONS OF A CLOSED FILE are the old ones, renumbered
  pub mentions-renumbered : mentions_in hs ≡ map (new_number (new_table gs)) (mentions_in gs)
  mentions-renumbered = fields-mentions (new_order gs) (new_table gs) (λ k. omega (arith, number_small gs k)) c

  -- THEIR TOTAL IS UNCHANGED
  pub total_kept : length (mentions_in hs) ≡ length (mentions_in gs)
  total_kept = ap length mentions-renumbered ∙ length-map (mentions_in gs) (new_number (new_table gs))

-- ---- the order of a closed file
module _ (gs : List Field) where
  -- the number at a place of the order has that place for its new number, and no other has
  same_place : (x j : ℕ) → Placed (new_order gs) (new_table gs) x → j < length (new_order gs)
      → eqb (new_number (new_table gs) x) j ≡ eqb x (get_or (new_order gs) j 0)
  same_place x j p l = go (eqb (new_number (new_table gs) x) j) refl
    where
      go : (t : Bool) → eqb (new_number (new_table gs) x) j ≡ t → t ≡ eqb x (get_or (new_order gs) j 0)
      go true e = let z : new_number (new_table gs) x ≡ j = eqb-true _ j e in
          sym (eq-eqb x (get_or (new_order gs) j 0) (sym p.is ∙ ap (λ (n : ℕ). get_or (new_order gs) n 0) z))
      go false e = sym (ne_eqb x (get_or (new_order gs) j 0) (λ z. eqb-false _ j e (ap (new_number (new_table gs)) z ∙ place-number gs j l)))

  times-at : (ks : List ℕ) → All (Placed (new_order gs) (new_table gs)) ks → (j : ℕ) → j < length (new_order gs)
      → times j (map (new_number (new_table gs)) ks) ≡ times (get_or (new_order gs) j 0) ks
  unfolding times
  times-at [] a j h = refl
  times-at (x ∷ ks) a j h = ap₂ ◌+◌ (ap (λ (t : Bool). pick t 1 0) (same_place x j (all_head a) h)) (times-at ks (all_tail a) j h)

  times-past : (ks : List ℕ) → All (Placed (new_order gs) (new_table gs)) ks → (j : ℕ) → length (new_order gs) ≤ j
      → times j (map (new_number (new_table gs)) ks) ≡ 0
  unfolding times
  times-past [] a j h = refl
  times-past (x ∷ ks) a j h =
      let p = (all_head a).inside in
      rw (ne_eqb (new_number (new_table gs) x) j (λ z. omega arith)) (omega (arith, times-past ks (all_tail a) j h))

  some-use : (j : ℕ) → j < length (new_order gs) → 0 < get_or (uses_of gs) (get_or (new_order gs) j 0) 0
  some-use j h = go (ltb 0 (get_or (uses_of gs) (get_or (new_order gs) j 0) 0)) refl (order-once gs (get_or (new_order gs) j 0))
    where
      go : (t : Bool) → ltb 0 (get_or (uses_of gs) (get_or (new_order gs) j 0) 0) ≡ t → times (get_or (new_order gs) j 0) (new_order gs) ≡ pick t 1 0
          → 0 < get_or (uses_of gs) (get_or (new_order gs) j 0) 0
      go true e f = ltb-true 0 _ e
      go false e f = absurd (omega (arith, stands-once (new_order gs) j h))

module _ (gs hs : List Field) (below : All (λ k. k < 8192) (mentions_in gs)) (c : ClosedAs (new_order gs) (new_table gs) gs hs) where
  placed : All (Placed (new_order gs) (new_table gs)) (mentions_in gs)
  placed = mentioned-placed gs below

  uses-again : (j : ℕ) → j < length (new_order gs) → get_or (uses_of hs) j 0 ≡ get_or (uses_of gs) (get_or (new_order gs) j 0) 0
  uses-again j h =
      uses-counted hs j (omega (arith, order-few gs)) ∙ ap (times j) (mentions-renumbered gs hs c) ∙ times-at gs (mentions_in gs) placed j h
      ∙ sym (uses-counted gs (get_or (new_order gs) j 0) (order_below gs j))

  uses-past : (j : ℕ) → length (new_order gs) ≤ j → get_or (uses_of hs) j 0 ≡ 0
  uses-past j h =
      by_order j 8192
      (λ l. uses-counted hs j l ∙ ap (times j) (mentions-renumbered gs hs c) ∙ times-past gs (mentions_in gs) placed j h)
      (λ l. get_or-eq_default {A = ℕ} (uses_of hs) 0 {n = j} (rw (length-uses-of hs) l))

  falls : Falls (length (new_order gs)) (uses_of hs)
  falls = record {
    some = λ j h. rw (uses-again j h) (some-use gs j h);
    none = uses-past;
    fall = λ j h. rw (uses-again j (omega arith), uses-again (suc j) h) (order-falls (uses_of gs) (omega (arith, length-uses-of gs)) j h);
  }

  -- THE ORDER OF A CLOSED FILE is its pool as it stands: no string is unused, and none moves
  pub order-again : new_order hs ≡ up_from 0 (length (new_order gs))
  order-again = order-up (length (new_order gs)) (uses_of hs) (omega (arith, length-uses-of hs)) falls

  length-again : length (new_order hs) ≡ length (new_order gs)
  length-again = ap length order-again ∙ length_up 0 (length (new_order gs))

  at-place : (j : ℕ) → j < length (new_order gs) → get_or (new_order hs) j 0 ≡ j
  at-place j h = ap (λ (l : List ℕ). get_or l j 0) order-again ∙ up_at 0 (length (new_order gs)) j h ∙ (let z : 0 + j ≡ j = omega arith in z)

  -- and its numbers stay
  pub number-again : (j : ℕ) → j < length (new_order gs) → new_number (new_table hs) j ≡ j
  number-again j h =
      ap (new_number (new_table hs)) (sym (at-place j h)) ∙ place-number hs j (omega (arith, length-again))

  -- ---- the fields closed again
  chosen-again : (us : List (List ℕ)) → length us ≡ length (new_order gs) → chosen us (new_order hs) ≡ us
  chosen-again us e =
      let l : length (chosen us (new_order hs)) ≡ length us = length-chosen us (new_order hs) ∙ length-again ∙ sym e in
      ext_get_or [] (chosen us (new_order hs)) us l (λ j h.
      chosen_at us (new_order hs) j (omega (arith, length-chosen us (new_order hs))) ∙ ap (λ (n : ℕ). get_or us n []) (at-place j (omega arith)))

  data-again : (i : ℕ) (d : List ℕ) → All (Placed (new_order gs) (new_table gs)) (numbers_of i d)
      → closed_data (new_order hs) (new_table hs) i (closed_data (new_order gs) (new_table gs) i d) ≡ closed_data (new_order gs) (new_table gs) i d
  unfolding closed_data
  data-again i d a = go (eqb i 0)
    where
      us : List (List ℕ)
      us = chosen (strings_of d) (new_order gs)

      pool : List ℕ
      pool = write_pool us

      ρ : ℕ → ℕ
      ρ = new_number (new_table gs)

      ρ' : ℕ → ℕ
      ρ' = new_number (new_table hs)

      other : List ℕ
      other = renumbered ρ i d

      go : (t : Bool) → pick t (write_pool (chosen (strings_of (pick t pool other)) (new_order hs))) (renumbered ρ' i (pick t pool other)) ≡ pick t pool other
      go true =
          ap (λ (ts : List (List ℕ)). write_pool (chosen ts (new_order hs))) (ap strings_in (pool-reads-back d (new_order gs) (order-few gs)))
          ∙ ap write_pool (chosen-again us (length-chosen (strings_of d) (new_order gs)))
      go false =
          renumbered-twice ρ i d (all_of (λ k. omega (arith, number_small gs k)) (numbers_of i d)) ρ'
          ∙ renumbered-alike (λ k. ρ' (ρ k)) ρ i d (all_map (λ k (p : Placed (new_order gs) (new_table gs) k). number-again (ρ k) p.inside) a)

  fields-again : {fs ks : List Field} → ClosedAs (new_order gs) (new_table gs) fs ks → All (Placed (new_order gs) (new_table gs)) (mentions_in fs)
      → closed_fields (new_order hs) (new_table hs) ks ≡ closed_fields (new_order gs) (new_table gs) fs
  unfolding closed_fields mentions_in
  fields-again closed_none a = refl
  fields-again (closed-also {g = g} {gs = fs} i d r) a =
      ap₂ ◌++◌ (ap₂ (λ (j : ℕ) (x : List ℕ). write_field j (closed_data (new_order hs) (new_table hs) j x)) i d
      ∙ ap (write_field g.id) (data-again g.id g.body (all_left (numbers_of g.id g.body) (mentions_in fs) a)))
      (fields-again r (all_right (numbers_of g.id g.body) (mentions_in fs) a))

  -- CLOSED AGAIN, a closed file stays as it is
  pub closed-again : closed_file hs ≡ closed_file gs
  unfolding closed_file
  closed-again = ap (λ (l : List ℕ). 0 ∷ 0 ∷ 0 ∷ 0 ∷ l) (fields-again c placed)
