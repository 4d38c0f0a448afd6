-- The bytes from the next mention on are no more than those before it, and what stands at a place. Assumes nothing.
use Rattle.std.specs.Prelude.{Err, Ok}
use Rattle.base.specs.Coded.{Coded}
use mathlib.Core.Path.{◌≡◌, refl, subst⁻¹}
use mathlib.Core.Bool.{Bool, true, false}
use mathlib.Core.List.{List, [], ◌∷◌}
use Prim.Native.Nat.{ℕ, ◌-◌, ◌≤◌, ◌<◌}
use native.Mathlib.Omega.{arith}
use lib.ListN.{length, drop, length-drop, drop_of_length-le}
use lib.Dec.{eqb}
use borrow.Author.Tests.{eq-eqb, ne_eqb}
use Rattle.base.specs.Pick.{pick}
use Rattle.base.specs.Parsed.{Parsed, got, bad, bind, behind_code, parse, parse_byte}
use Rattle.base.specs.Moment.{end_of_time}
use Rattle.base.proofs.ParseLaws.{bad-got, got-rest}
use Rattle.counts.specs.Count.{read_count}
use Rattle.counts.proofs.CountLaws.{counted}
use Rattle.counts.proofs.GroupLaws.{group}
use Rattle.offsets.specs.Offset.{read_sum}
use Rattle.transitions.specs.Transition.{read_moment}
use Rattle.places.specs.Name.{read_zigzag}
use Rattle.places.specs.Placed.{Placed, at, Stands}
use Rattle.places.proofs.PlaceLaws.{code_holds}
use Rattle.mentions.specs.declared.Stage.{Stage}
use Rattle.mentions.specs.declared.Stage.TheVariants.{Zone, Flag, Interval, Rule, Aliases, Locations, Names, Rest}
use Rattle.mentions.specs.Walk.{no_more, behind_rule, behind_end, behind_start, behind_details, behind_offset, behind_interval_count, behind_id, numbered_names, location_names, before_names, before_pairs, before_locations, ahead_of, first_stage}

-- what is left of at most n bytes
abbrev pub Left : {A : Type 0} → ℕ → Parsed A → Type 0
Left n (got a r) = length r ≤ n
Left n (bad k) = Unit {0}

pub left-bind : {A B : Type 0} (n : ℕ) (p : Parsed A) (k : A → List ℕ → Parsed B) → Left n p → ((a : A) (r : List ℕ) → length r ≤ n → Left n (k a r)) → Left n (bind p k)
left-bind n (got a r) k h f = f a r h
left-bind n (bad j) k h f = tt

pub left-pick : {A : Type 0} (n : ℕ) (t : Bool) (p q : Parsed A) → Left n p → Left n q → Left n (pick t p q)
left-pick n true p q h i = h
left-pick n false p q h i = i

pub left-parse : (read : List ℕ → Coded ℕ) (n : ℕ) (s : List ℕ) → length s ≤ n → Left n (parse read s)
left-parse read n s h = go (read s)
  where
    go : (x : Coded ℕ) → Left n (behind_code s x)
    go (Ok (v, k)) = rw length-drop (omega arith)
    go (Err k) = tt

pub left-byte : (n : ℕ) (s : List ℕ) → length s ≤ n → Left n (parse_byte s)
unfolding parse_byte
left-byte n [] h = tt
left-byte n (b ∷ s) h = omega arith

pub left-none : (n : ℕ) → Left n no_more
left-none n = omega arith

module _ (n : ℕ) where
  pub left-rule : (s : List ℕ) → length s ≤ n → Left n (behind_rule s)
  unfolding behind_rule
  left-rule s h =
      left-bind n (parse_byte s) _ (left-byte n s h) (λ b r i. left-bind n (parse read_count r) _ (left-parse read_count n r i)
      (λ m q j. left-bind n (parse read_zigzag q) _ (left-parse read_zigzag n q j) (λ d p k. left-bind n (parse read_sum p) _ (left-parse read_sum n p k) (λ t o l. l))))

  pub left_end : (s : List ℕ) → length s ≤ n → Left n (behind_end s)
  unfolding behind_end
  left_end s h =
      left-bind n (parse_byte s) _ (left-byte n s h)
      (λ b r i. left-pick n (eqb b 1) _ no_more (left-bind n (parse read_sum r) _ (left-parse read_sum n r i) (λ o q j. j)) (left-none n))

  pub left-start : (prev left : ℕ) (s : List ℕ) → length s ≤ n → Left n (behind_start prev left s)
  unfolding behind_start
  left-start prev left s h =
      left-bind n (parse (read_moment prev) s) _ (left-parse (read_moment prev) n s h) (λ m r i. left-pick n (eqb left 0) (behind_end r) _ (left_end r i) i)

  pub left-id : (s : List ℕ) → length s ≤ n → Left n (behind_id s)
  unfolding behind_id behind_offset behind_interval_count
  left-id s h =
      left-bind n (parse_byte s) _ (left-byte n s h)
      (λ b r i. left-pick n (eqb b 1) _ _ (left-bind n (parse read_sum r) _ (left-parse read_sum n r i) (λ o q j. j))
      (left-pick n (eqb b 2) _ no_more (left-bind n (parse read_count r) _ (left-parse read_count n r i) (λ k q j. left-start end_of_time k q j)) (left-none n)))

  pub left-number : (numbered : Bool) (s : List ℕ) → length s ≤ n → Left n (pick numbered (numbered_names s) (got 3 s))
  unfolding numbered_names
  left-number numbered s h = left-pick n numbered _ (got 3 s) (left-bind n (parse read_zigzag s) _ (left-parse read_zigzag n s h) (λ v r i. i)) h

  pub left-location : (numbered : Bool) (s : List ℕ) → length s ≤ n → Left n (location_names numbered s)
  unfolding location_names
  left-location numbered s h =
      left-bind n (parse read_zigzag s) _ (left-parse read_zigzag n s h)
      (λ a r i. left-bind n (parse read_zigzag r) _ (left-parse read_zigzag n r i) (λ b q j. left-number numbered q j))

  pub left-names : (m l : ℕ) (numbered : Bool) (s : List ℕ) → length s ≤ n → Left n (before_names m l numbered s)
  unfolding before_names
  left-names m l numbered s h =
      left-pick n (eqb m 0) _ _ (left-pick n (eqb l 0) no_more _ (left-none n) (left-bind n (location_names numbered s) _ (left-location numbered s h) (λ k r i. i))) h

  pub left-ahead : (σ : Stage) (s : List ℕ) → length s ≤ n → Left n (ahead_of σ s)
  unfolding ahead_of behind_details before_pairs before_locations
  left-ahead Zone s h = h
  left-ahead Flag s h = left-id s h
  left-ahead (Interval start left) s h =
      left-bind n (parse read_sum s) _ (left-parse read_sum n s h) (λ w r i. left-bind n (parse read_sum r) _ (left-parse read_sum n r i) (λ v q j. left-start start left q j))
  left-ahead Rule s h = left-rule s h
  left-ahead Aliases s h = left-bind n (parse read_count s) _ (left-parse read_count n s h) (λ k r i. left-names _ 0 false r i)
  left-ahead (Locations numbered) s h = left-bind n (parse read_count s) _ (left-parse read_count n s h) (λ k r i. left-names 0 k numbered r i)
  left-ahead (Names m l numbered) s h = left-names m l numbered s h
  left-ahead Rest s h = left-none n

-- the bytes from the next mention on are no more than those before it
pub ahead-left : (σ : Stage) (s : List ℕ) (τ : Stage) (r : List ℕ) → ahead_of σ s ≡ got τ r → length r ≤ length s
ahead-left σ s τ r e = go (ahead_of σ s) e (left-ahead (length s) σ s (omega arith))
  where
    go : (p : Parsed Stage) → p ≡ got τ r → Left (length s) p → length r ≤ length s
    go (got a q) f h = rw (← got-rest f) h
    go (bad k) f h = bad-got f

-- a count takes a byte
pub count_left : (s : List ℕ) (v : ℕ) (r : List ℕ) → parse read_count s ≡ got v r → length r < length s
count_left s v r e = go (read_count s) refl e
  where
    go : (x : Coded ℕ) → x ≡ read_count s → behind_code s x ≡ got v r → length r < length s
    go (Ok (w, n)) h f = let c = counted s h in let l : drop n s ≡ r = got-rest f in rw (← l, length-drop) (omega (arith, c.some, c.within))
    go (Err k) h f = bad-got f

pub zigzag-small : (q : List ℕ) (v : ℕ) (r : List ℕ) → parse read_zigzag q ≡ got v r → v ≤ 4294967295
zigzag-small q v r e = code_holds read_zigzag (λ w. w ≤ 4294967295) (λ s w n h. let z = (group 4 15 s h).small in omega (arith, z)) q v r e

-- ---- what stands at a place
pub none_here : (s : List ℕ) → Stands s no_more (at Rest (length s))
none_here s = record { means = rw (drop_of_length-le s {i = length s} (omega arith)); within = omega arith }

module _ (s : List ℕ) (place n l : ℕ) (numbered : Bool) where
  pub names_more : 0 < n → place ≤ length s → Stands s (before_names n l numbered (drop place s)) (at (Names (n - 1) l numbered) place)
  unfolding before_names
  names_more h i = rw (ne_eqb n 0 (λ z. omega arith)) (record { means = refl; within = i })

  pub names-none : n ≤ 0 → l ≡ 0 → Stands s (before_names n l numbered (drop place s)) (at Rest (length s))
  unfolding before_names
  names-none h i = rw (eq-eqb n 0 (omega arith), eq-eqb l 0 i) (none_here s)

  pub names-next : (x : Placed Stage) → n ≤ 0 → (l ≡ 0 → ⊥)
      → Stands s (bind (location_names numbered (drop place s)) (λ k r. got (Names k (l - 1) numbered) r)) x → Stands s (before_names n l numbered (drop place s)) x
  unfolding before_names
  names-next x h i g = rw (eq-eqb n 0 (omega arith), ne_eqb l 0 i) g

-- what stands behind a stage, where it is known which
pub ahead-is : (s : List ℕ) (place : ℕ) (σ τ : Stage) (x : Placed Stage) → σ ≡ τ → Stands s (ahead_of τ (drop place s)) x → Stands s (ahead_of σ (drop place s)) x
ahead-is s place σ τ x e h = subst⁻¹ (λ (υ : Stage). Stands s (ahead_of υ (drop place s)) x) e h

pub first_rest : (i : ℕ) → (i ≡ 1 → ⊥) → (i ≡ 3 → ⊥) → (i ≡ 6 → ⊥) → (i ≡ 7 → ⊥) → Rest ≡ first_stage i
unfolding first_stage
first_rest i a b c d = rw (ne_eqb i 1 a, ne_eqb i 3 b, ne_eqb i 6 c, ne_eqb i 7 d)
