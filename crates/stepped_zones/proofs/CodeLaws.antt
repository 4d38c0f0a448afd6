-- A code that was read ends where its first bytes say. Assumes nothing.
use Rattle.std.specs.Prelude.{Err, Ok}
use Rattle.base.specs.Coded.{Coded}
use Rattle.base.specs.declared.Refusal.TheVariants.{BadCode, BadData, BadText}
use mathlib.Core.Path.{◌≡◌, refl, sym, ap, ◌∙◌, subst}
use mathlib.Core.Bool.{Bool, true, false}
use mathlib.Core.List.{List, [], ◌∷◌}
use Prim.Native.Nat.{ℕ, zero, suc, ◌+◌, ◌*◌, ◌-◌, ◌%◌, ◌≤◌, ◌<◌}
use native.Mathlib.Omega.{arith}
use native.Mathlib.Numerals.{add-one}
use lib.Dec.{ltb, leb, eqb}
use lib.ListN.{length, drop, get_or, length-drop, drop_of_length-le}
use lib.Seq.{drop-drop, drop-cons}
use borrow.Author.Tests.{ltb-true, ltb-false, leb-true, leb-false, eqb-true, eqb-false}
use Rattle.base.specs.Pick.{pick}
use Rattle.base.specs.Moment.{finite}
use Rattle.base.specs.Parsed.{Parsed, got, bad, bind, behind_code, parse, parse_byte}
use Rattle.base.proofs.Tests.{clash, pick-holds}
use Rattle.base.proofs.PairLaws.{ok_parts}
use Rattle.base.proofs.ParseLaws.{bad-got, got-value, got-rest, bind-good, pick_good}
use Rattle.counts.specs.Groups.{more, read_groups}
use Rattle.counts.specs.Fixed.{fixed_from, read_fixed}
use Rattle.counts.specs.Count.{read_count}
use Rattle.offsets.specs.Offset.{in_day, offset_of, in_units, read_sum}
use Rattle.signed.specs.Instant.{from_raw}
use Rattle.transitions.specs.Transition.{hour, minute, year1800, in_range, hours_after, from_count, from_ticks, after_count, read_moment}
use Rattle.places.specs.Name.{read_zigzag, judge_name, parse_name}
use Rattle.counted_zones.specs.Steps.{count_end, moment_end, sum_end, number_at, number_end}
use Rattle.counted_zones.proofs.StepLaws.{count-1, count-2, count-3, count-4, count-5, moment-ticks, moment-count, sum-1, sum-2, sum-3, sum-4, number-one, number-end-one, number-two, number-end-two}

-- the bytes q behind a code are those from the place e on
pub record Ends (s q : List ℕ) (e : ℕ) : Type 0 where
  pub rest : q ≡ drop e s
  pub within : e ≤ length s

-- a code of n bytes
record CodeAt (read : List ℕ → Coded ℕ) (s : List ℕ) (p v : ℕ) (q : List ℕ) : Type 0 where
  size : ℕ
  is : Ok (v, size) ≡ read (drop p s)
  rest : q ≡ drop (p + size) s

coded : (read : List ℕ → Coded ℕ) (s : List ℕ) (p v : ℕ) (q : List ℕ) → parse read (drop p s) ≡ got v q → CodeAt read s p v q
coded read s p v q e = go (read (drop p s)) refl e
  where
    go : (x : Coded ℕ) → x ≡ read (drop p s) → behind_code (drop p s) x ≡ got v q → CodeAt read s p v q
    go (Ok (w, n)) h k =
        record { size = n; is = ap (λ (y : ℕ). Ok (y, n)) (sym (got-value k)) ∙ h; rest = sym (got-rest k) ∙ drop-drop n p s }
    go (Err n) h k = bad-got k

-- ---- groups
module _ (s : List ℕ) (p : ℕ) where
  nothing : length s ≤ p → (k top v n : ℕ) (G : Type 0) → Ok (v, n) ≡ read_groups k top (drop p s) → G
  unfolding read_groups
  nothing l k top v n G e = none k (rw (drop_of_length-le s l) at e)
    where
      none : (j : ℕ) → Ok (v, n) ≡ read_groups j top [] → G
      none zero h = clash cc
      none (suc j) h = clash cc

  -- the last of them
  last-group : (top v n : ℕ) → Ok (v, n) ≡ read_groups zero top (drop p s) → (p < length s) × (n ≡ 1)
  unfolding read_groups
  last-group top v n e = go (ltb p (length s)) refl
    where
      one : (t : Bool) (b : ℕ) → Ok (v, n) ≡ pick {A = Coded ℕ} t (Ok (b, 1)) (Err BadCode) → n ≡ 1
      one true b h = (ok_parts h).1
      one false b h = clash cc

      go : (t : Bool) → ltb p (length s) ≡ t → (p < length s) × (n ≡ 1)
      go true h = let l = ltb-true p (length s) h in (l, one (leb (get_or s p 0) top) (get_or s p 0) (rw (drop-cons s p 0 l) at e))
      go false h = nothing (ltb-false p (length s) h) zero top v n ((p < length s) × (n ≡ 1)) e

  module _ (k top v n p' : ℕ) (next : p' ≡ p + 1) (G : Type 0) (e : Ok (v, n) ≡ read_groups (suc k) top (drop p s))
      (single : p < length s → get_or s p 0 < 128 → n ≡ 1 → v ≡ get_or s p 0 → G)
      (several : (w m : ℕ) → 128 ≤ get_or s p 0 → Ok (w, m) ≡ read_groups k top (drop p' s) → n ≡ m + 1 → v ≡ get_or s p 0 % 128 + 128 * w
      → (w ≡ 0 → ⊥) → G) where
    group-step : G
    unfolding read_groups
    group-step = go (ltb p (length s)) refl
      where
        much : (r : Coded ℕ) → r ≡ read_groups k top (drop (suc p) s) → 128 ≤ get_or s p 0 → Ok (v, n) ≡ more (get_or s p 0) r → G
        much (Err j) i a h = clash cc
        much (Ok (w, m)) i a h = zeros (eqb w 0) refl h
          where
            zeros : (t : Bool) → eqb w 0 ≡ t → Ok (v, n) ≡ pick {A = Coded ℕ} t (Err BadCode) (Ok (get_or s p 0 % 128 + 128 * w, m + 1)) → G
            zeros true z f = clash cc
            zeros false z f =
                let x : n ≡ m + 1 = (ok_parts f).1 in
                let y : v ≡ get_or s p 0 % 128 + 128 * w = (ok_parts f).0 in
                several w m a (i ∙ ap (λ (j : ℕ). read_groups k top (drop j s)) (sym (next ∙ add-one p))) x y (eqb-false w 0 z)

        by : p < length s → (t : Bool) → ltb (get_or s p 0) 128 ≡ t → Ok (v, n) ≡ pick t (Ok (get_or s p 0, 1)) (more (get_or s p 0) (read_groups k top (drop (suc p) s))) → G
        by l true h f =
            let x : n ≡ 1 = (ok_parts f).1 in
            let y : v ≡ get_or s p 0 = (ok_parts f).0 in
            single l (ltb-true (get_or s p 0) 128 h) x y
        by l false h f = much (read_groups k top (drop (suc p) s)) refl (ltb-false (get_or s p 0) 128 h) f

        go : (t : Bool) → ltb p (length s) ≡ t → G
        go true h =
            let l = ltb-true p (length s) h in
            by l (ltb (get_or s p 0) 128) refl (rw (drop-cons s p 0 l) at e)
        go false h = nothing (ltb-false p (length s) h) (suc k) top v n G e

module _ (s : List ℕ) (p top v n : ℕ) (e : Ok (v, n) ≡ read_groups 4 top (drop p s)) where
  groups-end : (p + n ≡ count_end s p) × (p + n ≤ length s)
  groups-end =
      group-step s p 3 top v n (p + 1) (omega arith) _ e
      (λ l a i j. (ap (λ (x : ℕ). p + x) i ∙ count-1 s p a, omega arith))
      (λ w₁ m₁ a e₁ i₁ j₁ z₁. group-step s (p + 1) 2 top w₁ m₁ (p + 2) (omega arith) _ e₁
      (λ l b i j. let k : p + n ≡ p + 2 = omega arith in (k ∙ count-2 s p a b, omega arith))
      (λ w₂ m₂ b e₂ i₂ j₂ z₂. group-step s (p + 2) 1 top w₂ m₂ (p + 3) (omega arith) _ e₂
      (λ l c i j. let k : p + n ≡ p + 3 = omega arith in (k ∙ count-3 s p a b c, omega arith))
      (λ w₃ m₃ c e₃ i₃ j₃ z₃. group-step s (p + 3) 0 top w₃ m₃ (p + 4) (omega arith) _ e₃
      (λ l d i j. let k : p + n ≡ p + 4 = omega arith in (k ∙ count-4 s p a b c d, omega arith))
      (λ w₄ m₄ d e₄ i₄ j₄ z₄. let f = last-group s (p + 4) top w₄ m₄ e₄ in let k : p + n ≡ p + 5 = omega (arith, f.1) in (k ∙ count-5 s p a b c d, omega (arith, f.0, f.1))))))

  -- a number below 16,384 takes two bytes at most
  number-end : v < 16384 → (v ≡ number_at s p) × (p + n ≡ number_end s p) × (p + n ≤ length s)
  number-end h =
      group-step s p 3 top v n (p + 1) (omega arith) _ e
      (λ l a i j. (j ∙ number-one s p a, ap (λ (x : ℕ). p + x) i ∙ number-end-one s p a, omega arith))
      (λ w₁ m₁ a e₁ i₁ j₁ z₁. group-step s (p + 1) 2 top w₁ m₁ (p + 2) (omega arith) _ e₁
      (λ l b i j. let k : p + n ≡ p + 2 = omega arith in (j₁ ∙ ap (λ (x : ℕ). get_or s p 0 % 128 + 128 * x) j ∙ number-two s p a, k ∙ number-end-two s p a, omega arith))
      (λ w₂ m₂ b e₂ i₂ j₂ z₂. absurd (omega (arith, h, j₁, j₂, z₂))))

  -- and one that is 2 one byte
  two-first : v ≡ 2 → (n ≡ 1) × (get_or s p 0 ≡ 2)
  two-first h =
      group-step s p 3 top v n (p + 1) (omega arith) _ e (λ l a i j. (i, omega arith)) (λ w₁ m₁ a e₁ i₁ j₁ z₁. absurd (omega (arith, h, j₁, z₁)))

  first_two : get_or s p 0 ≡ 2 → v ≡ 2
  first_two h =
      group-step s p 3 top v n (p + 1) (omega arith) _ e (λ l a i j. omega arith) (λ w₁ m₁ a e₁ i₁ j₁ z₁. absurd (omega (arith, h, a)))

module _ (s : List ℕ) (p v : ℕ) (q : List ℕ) where
  pub groups-ends : (top : ℕ) → parse (read_groups 4 top) (drop p s) ≡ got v q → Ends s q (count_end s p)
  groups-ends top e =
      let c = coded (read_groups 4 top) s p v q e in
      let f = groups-end s p top v c.size c.is in
      record { rest = c.rest ∙ ap (λ (x : ℕ). drop x s) f.0; within = omega (arith, f.0, f.1) }

  pub number-ends : parse read_count (drop p s) ≡ got v q → v < 16384 → (v ≡ number_at s p) × Ends s q (number_end s p)
  number-ends e h =
      let c = coded read_count s p v q e in
      let f = number-end s p 7 v c.size c.is h in
      (f.0, record { rest = c.rest ∙ ap (λ (x : ℕ). drop x s) f.1; within = omega (arith, f.1, f.2) })

  pub name-ends : (pool : ℕ) → pool ≤ 8192 → parse_name pool (drop p s) ≡ got v q → (v ≡ number_at s p) × Ends s q (number_end s p)
  unfolding parse_name judge_name
  name-ends pool few e =
      let a = bind-good (parse read_count (drop p s)) (judge_name pool) v q e in
      let b = pick_good (ltb a.first pool) (got a.first a.rest) BadText v q a.on in
      let l = ltb-true a.first pool b.0 in
      number-ends (a.is ∙ b.1) (let i : a.first ≡ v = got-value b.1 in omega arith)

  pub byte-ends : parse_byte (drop p s) ≡ got v q → (v ≡ get_or s p 0) × Ends s q (p + 1)
  unfolding parse_byte
  byte-ends e = go (ltb p (length s)) refl
    where
      go : (t : Bool) → ltb p (length s) ≡ t → (v ≡ get_or s p 0) × Ends s q (p + 1)
      go true h =
          let l = ltb-true p (length s) h in
          let f : got (get_or s p 0) (drop (suc p) s) ≡ got v q = (rw (drop-cons s p 0 l) at e) in
          (sym (got-value f), record { rest = sym (got-rest f) ∙ ap (λ (x : ℕ). drop x s) (sym (add-one p)); within = omega arith })
      go false h = bad-got (rw (drop_of_length-le s (ltb-false p (length s) h)) at e)

-- ---- how many bytes a value takes, whatever it is
abbrev Takes : ℕ → Coded ℕ → Type 0
Takes n (Ok (v, k)) = k ≡ n
Takes n (Err k) = Unit {0}

takes : (n : ℕ) (r : Coded ℕ) → Takes n r → (v k : ℕ) → Ok (v, k) ≡ r → k ≡ n
takes n (Ok (w, m)) h v k e = (ok_parts e).1 ∙ h
takes n (Err j) h v k e = clash cc

offset-takes : (n coarser sum : ℕ) → Takes n (offset_of n coarser sum)
offset-takes n coarser sum =
    pick-holds (Takes n) (in_day sum) (λ _. pick-holds (Takes n) (eqb (sum % coarser) 0) (λ _. tt) (λ _. refl)) (λ _. tt)

range-takes : (n t : ℕ) → Takes n (in_range n t)
range-takes n t = pick-holds (Takes n) (finite t) (λ _. refl) (λ _. tt)

count-takes : (prev v n : ℕ) → Takes n (from_count prev v n)
unfolding from_count
count-takes prev v n =
    pick-holds (Takes n) (eqb v 0) (λ _. refl)
    (λ _. pick-holds (Takes n) (eqb v 1) (λ _. refl)
    (λ _. pick-holds (Takes n) (ltb v 128) (λ _. tt)
    (λ _. pick-holds (Takes n) (ltb v 2097152) (λ _. pick-holds (Takes n) (finite prev) (λ _. range-takes n (prev + v * hour)) (λ _. tt))
    (λ _. range-takes n (year1800 + v * minute)))))

-- m bytes behind the first of an offset
units-take : (unit coarser m high : ℕ) (s : List ℕ) (v n : ℕ) → Ok (v, n) ≡ in_units unit coarser (read_fixed m high s) → (n ≡ m + 1) × (m ≤ length s)
units-take unit coarser m high s v n e = go (leb m (length s)) refl e
  where
    go : (t : Bool) → leb m (length s) ≡ t → Ok (v, n) ≡ in_units unit coarser (pick t (Ok (fixed_from m high s, m)) (Err BadData)) → (n ≡ m + 1) × (m ≤ length s)
    go true h f = (takes (m + 1) _ (offset-takes (m + 1) coarser (fixed_from m high s * unit)) v n f, leb-true m (length s) h)
    go false h f = clash cc

ticks-take : (k : ℕ) (s : List ℕ) (v n : ℕ) → Ok (v, n) ≡ from_ticks k (read_fixed 8 0 s) → (n ≡ k + 8) × (8 ≤ length s)
ticks-take k s v n e = go (leb 8 (length s)) refl e
  where
    go : (t : Bool) → leb 8 (length s) ≡ t → Ok (v, n) ≡ from_ticks k (pick t (Ok (fixed_from 8 0 s, 8)) (Err BadData)) → (n ≡ k + 8) × (8 ≤ length s)
    go true h f = (takes (k + 8) _ (range-takes (k + 8) (from_raw (fixed_from 8 0 s))) v n f, leb-true 8 (length s) h)
    go false h f = clash cc

-- ---- an offset
module _ (s : List ℕ) (p v n : ℕ) (e : Ok (v, n) ≡ read_sum (drop p s)) where
  sum-size : (p + n ≡ sum_end s p) × (p + n ≤ length s)
  unfolding read_sum
  sum-size = go (ltb p (length s)) refl
    where
      left : p < length s → length (drop (suc p) s) ≡ length s - suc p
      left l = length-drop (suc p) s

      by : p < length s → (t₁ t₂ t₃ t₄ : Bool) → ltb (get_or s p 0) 128 ≡ t₁ → ltb (get_or s p 0) 160 ≡ t₂ → ltb (get_or s p 0) 192 ≡ t₃ → ltb (get_or s p 0) 224 ≡ t₄
          → Ok (v, n)
          ≡ pick t₁ (offset_of 1 172800000 (get_or s p 0 * 1800000))
          (pick t₂ (in_units 60000 1800000 (read_fixed 1 (get_or s p 0 % 32) (drop (suc p) s)))
          (pick t₃ (in_units 1000 60000 (read_fixed 2 (get_or s p 0 % 32) (drop (suc p) s)))
          (pick t₄ (in_units 1 1000 (read_fixed 3 (get_or s p 0 % 32) (drop (suc p) s))) (Err BadCode))))
          → (p + n ≡ sum_end s p) × (p + n ≤ length s)
      by l true t₂ t₃ t₄ h₁ h₂ h₃ h₄ f =
          let i = takes 1 _ (offset-takes 1 172800000 (get_or s p 0 * 1800000)) v n f in
          (ap (λ (x : ℕ). p + x) i ∙ sum-1 s p (ltb-true _ _ h₁), omega arith)
      by l false true t₃ t₄ h₁ h₂ h₃ h₄ f =
          let i = units-take 60000 1800000 1 (get_or s p 0 % 32) (drop (suc p) s) v n f in
          (ap (λ (x : ℕ). p + x) i.0 ∙ sum-2 s p (ltb-false _ _ h₁) (ltb-true _ _ h₂), omega (arith, i.0, i.1, left l))
      by l false false true t₄ h₁ h₂ h₃ h₄ f =
          let i = units-take 1000 60000 2 (get_or s p 0 % 32) (drop (suc p) s) v n f in
          (ap (λ (x : ℕ). p + x) i.0 ∙ sum-3 s p (ltb-false _ _ h₂) (ltb-true _ _ h₃), omega (arith, i.0, i.1, left l))
      by l false false false true h₁ h₂ h₃ h₄ f =
          let i = units-take 1 1000 3 (get_or s p 0 % 32) (drop (suc p) s) v n f in
          (ap (λ (x : ℕ). p + x) i.0 ∙ sum-4 s p (ltb-false _ _ h₃), omega (arith, i.0, i.1, left l))
      by l false false false false h₁ h₂ h₃ h₄ f = clash cc

      go : (t : Bool) → ltb p (length s) ≡ t → (p + n ≡ sum_end s p) × (p + n ≤ length s)
      go true h = let l = ltb-true p (length s) h in by l _ _ _ _ refl refl refl refl (rw (drop-cons s p 0 l) at e)
      go false h = let f : ◌≡◌ {A = Coded ℕ} (Ok (v, n)) (Err BadData) = (rw (drop_of_length-le s (ltb-false p (length s) h)) at e) in clash cc

pub sum-ends : (s : List ℕ) (p v : ℕ) (q : List ℕ) → parse read_sum (drop p s) ≡ got v q → Ends s q (sum_end s p)
sum-ends s p v q e =
    let c = coded read_sum s p v q e in
    let f = sum-size s p v c.size c.is in
    record { rest = c.rest ∙ ap (λ (x : ℕ). drop x s) f.0; within = omega (arith, f.0, f.1) }

-- ---- a transition
module _ (prev : ℕ) (s : List ℕ) (p m n : ℕ) (e : Ok (m, n) ≡ read_moment prev (drop p s)) where
  moment-size : (p + n ≡ moment_end s p) × (p + n ≤ length s)
  unfolding read_moment
  moment-size = go (read_count (drop p s)) refl e
    where
      by : (v k : ℕ) → Ok (v, k) ≡ read_count (drop p s) → (t : Bool) → eqb v 2 ≡ t
          → Ok (m, n) ≡ pick t (from_ticks k (read_fixed 8 0 (drop k (drop p s)))) (from_count prev v k) → (p + n ≡ moment_end s p) × (p + n ≤ length s)
      by v k r true h f =
          let a = two-first s p 7 v k r (eqb-true v 2 h) in
          let i = ticks-take k (drop k (drop p s)) m n f in
          let g = groups-end s p 7 v k r in
          let l : length (drop k (drop p s)) ≡ length (drop p s) - k = length-drop k (drop p s) in
          let o : length (drop p s) ≡ length s - p = length-drop p s in
          (ap (λ (x : ℕ). p + x) (let z : n ≡ 9 = omega (arith, i.0, a.0) in z) ∙ moment-ticks s p a.1, omega (arith, i.0, i.1, g.1))
      by v k r false h f =
          let i = takes k _ (count-takes prev v k) m n f in
          let g = groups-end s p 7 v k r in
          (ap (λ (x : ℕ). p + x) i ∙ g.0 ∙ moment-count s p (λ z. eqb-false v 2 h (first_two s p 7 v k r z)), omega (arith, i, g.1))

      go : (r : Coded ℕ) → r ≡ read_count (drop p s) → Ok (m, n) ≡ after_count prev (drop p s) r → (p + n ≡ moment_end s p) × (p + n ≤ length s)
      go (Ok (v, k)) r f = by v k r (eqb v 2) refl f
      go (Err k) r f = clash cc

pub moment-ends : (prev : ℕ) (s : List ℕ) (p m : ℕ) (q : List ℕ) → parse (read_moment prev) (drop p s) ≡ got m q → Ends s q (moment_end s p)
moment-ends prev s p m q e =
    let c = coded (read_moment prev) s p m q e in
    let f = moment-size prev s p m c.size c.is in
    record { rest = c.rest ∙ ap (λ (x : ℕ). drop x s) f.0; within = omega (arith, f.0, f.1) }
