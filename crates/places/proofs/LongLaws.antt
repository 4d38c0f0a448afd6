-- Starts in more than two bytes: which one stands at a place, and what it says. Assumes nothing.
use Rattle.base.specs.declared.Refusal.{Refusal}
use Rattle.std.specs.Prelude.{Err, Ok}
use Rattle.base.specs.declared.Refusal.TheVariants.{BadCode}
use mathlib.Core.Path.{◌≡◌, refl, sym, ap, ◌∙◌}
use mathlib.Core.List.{List}
use Prim.Native.Nat.{ℕ, suc, ◌+◌, ◌-◌, ◌*◌, ◌%◌, ◌≤◌, ◌<◌}
use native.Mathlib.Omega.{arith}
use native.Mathlib.Numerals.{add-one}
use lib.Dec.{ltb, eqb}
use lib.ListN.{length, take, drop, get_or}
use lib.Seq.{drop-cons}
use borrow.Author.Tests.{lt-ltb, le-ltb, eq-eqb, ne_eqb, ltb-true, ltb-false}
use Rattle.base.specs.Moment.{Finite, last_instant}
use Rattle.base.proofs.Tests.{pick-holds}
use Rattle.base.proofs.Parts.{part-from}
use Rattle.base.proofs.MomentLaws.{finite-yes}
use Rattle.counts.specs.Groups.{read_groups, more}
use Rattle.counts.specs.Count.{read_count}
use Rattle.transitions.specs.Transition.{hour, minute, year1800, from_count, read_moment}
use Rattle.transitions.specs.Later.{later_in}
use Rattle.transitions.proofs.MomentLaws.{range-in, range-out, hours-from, by-hours, by-minutes, after, after-other}
use Rattle.places.specs.Long.{start_size}

-- what each size says of the bytes
module _ (s : List ℕ) (place : ℕ) where
  size_holds : (P : ℕ → Type 0) → P 9 → P 2
      → (128 ≤ get_or s place 0 → 128 ≤ get_or s (place + 1) 0 → get_or s (place + 2) 0 < 128 → P 3)
      → (128 ≤ get_or s place 0 → 128 ≤ get_or s (place + 1) 0 → 128 ≤ get_or s (place + 2) 0 → get_or s (place + 3) 0 < 128 → P 4)
      → P (start_size s place)
  unfolding start_size
  size_holds P nine two three four =
      pick-holds P (eqb (get_or s place 0) 2) (λ _. nine)
      (λ _. pick-holds P (ltb (get_or s place 0) 128) (λ _. two)
      (λ a. pick-holds P (ltb (get_or s (place + 1) 0) 128) (λ _. two)
      (λ b. pick-holds P (ltb (get_or s (place + 2) 0) 128) (λ c. three (ltb-false _ _ a) (ltb-false _ _ b) (ltb-true _ _ c))
      (λ c. pick-holds P (ltb (get_or s (place + 3) 0) 128) (λ d. four (ltb-false _ _ a) (ltb-false _ _ b) (ltb-false _ _ c) (ltb-true _ _ d)) (λ _. two)))))

  pub size-least : 2 ≤ start_size s place
  size-least = size_holds (λ (n : ℕ). 2 ≤ n) (omega arith) (omega arith) (λ _ _ _. omega arith) (λ _ _ _ _. omega arith)

  pub size-most : (n : ℕ) → n ≡ start_size s place → n ≤ 9
  size-most n e = size_holds (λ (k : ℕ). n ≡ k → n ≤ 9) (λ z. omega arith) (λ z. omega arith) (λ _ _ _ z. omega arith) (λ _ _ _ _ z. omega arith) e

  pub record Three : Type 0 where
    pub first : 128 ≤ get_or s place 0
    pub second : 128 ≤ get_or s (place + 1) 0
    pub third : get_or s (place + 2) 0 < 128

  pub size-three : 3 ≡ start_size s place → Three
  size-three e =
      size_holds (λ (n : ℕ). 3 ≡ n → Three) (λ z. absurd (omega arith)) (λ z. absurd (omega arith))
      (λ a b c z. record { first = a; second = b; third = c }) (λ a b c d z. absurd (omega arith)) e

  pub record Four : Type 0 where
    pub first : 128 ≤ get_or s place 0
    pub second : 128 ≤ get_or s (place + 1) 0
    pub third : 128 ≤ get_or s (place + 2) 0
    pub fourth : get_or s (place + 3) 0 < 128

  pub size-four : 4 ≡ start_size s place → Four
  size-four e =
      size_holds (λ (n : ℕ). 4 ≡ n → Four) (λ z. absurd (omega arith)) (λ z. absurd (omega arith)) (λ a b c z. absurd (omega arith))
      (λ a b c d z. record { first = a; second = b; third = c; fourth = d }) e

  pub size-nine : (n : ℕ) → n ≡ start_size s place → (n ≡ 2 → ⊥) → (n ≡ 3 → ⊥) → (n ≡ 4 → ⊥) → n ≡ 9
  size-nine n e a b c =
      size_holds (λ (k : ℕ). n ≡ k → n ≡ 9) (λ z. z) (λ z. absurd (a z)) (λ _ _ _ z. absurd (b z)) (λ _ _ _ _ z. absurd (c z)) e

  -- the first byte of a count of two bytes is no 2
  pub size-two : 128 ≤ get_or s place 0 → get_or s (place + 1) 0 < 128 → start_size s place ≡ 2
  unfolding start_size
  size-two a b = rw (ne_eqb (get_or s place 0) 2 (λ z. omega arith), le-ltb (get_or s place 0) 128 a, lt-ltb (get_or s (place + 1) 0) 128 b)

  -- a byte of a count at a place: one with the top bit set, or the last
  group-more : (k : ℕ) → place < length s → 128 ≤ get_or s place 0
      → read_groups (suc k) 7 (drop place s) ≡ more (get_or s place 0) (read_groups k 7 (drop (place + 1) s))
  unfolding read_groups
  group-more k h l = rw (drop-cons s place 0 h, le-ltb (get_or s place 0) 128 l, add-one place)

  group-last : (k : ℕ) → place < length s → get_or s place 0 < 128 → read_groups (suc k) 7 (drop place s) ≡ Ok (get_or s place 0, 1)
  unfolding read_groups
  group-last k h l = rw (drop-cons s place 0 h, lt-ltb (get_or s place 0) 128 l)

-- one more byte in front of a count
module _ (s : List ℕ) (place k : ℕ) (h : place < length s) (l : 128 ≤ get_or s place 0) where
  front : (v n : ℕ) → read_groups k 7 (drop (place + 1) s) ≡ Ok (v, n) → (v ≡ 0 → ⊥)
      → read_groups (suc k) 7 (drop place s) ≡ Ok (get_or s place 0 % 128 + 128 * v, n + 1)
  front v n e z = group-more s place k h l ∙ rw (e, ne_eqb v 0 z)

  front-zero : (v n : ℕ) → read_groups k 7 (drop (place + 1) s) ≡ Ok (v, n) → v ≡ 0 → read_groups (suc k) 7 (drop place s) ≡ Err BadCode
  front-zero v n e z = group-more s place k h l ∙ rw (e, z)

  front-none : read_groups k 7 (drop (place + 1) s) ≡ Err BadCode → read_groups (suc k) 7 (drop place s) ≡ Err BadCode
  front-none e = group-more s place k h l ∙ rw e

-- counts of three and of four bytes; a last byte 0 is refused
module _ (s : List ℕ) (place : ℕ) where
  two : place + 1 + 1 ≡ place + 2
  two = omega arith

  three : place + 2 + 1 ≡ place + 3
  three = omega arith

  module _ (w : place + 3 ≤ length s) (b : Three s place) where
    last-three : read_groups 2 7 (drop (place + 1 + 1) s) ≡ Ok (get_or s (place + 2) 0, 1)
    last-three = rw two (group-last s (place + 2) 1 (omega arith) b.third)

    count-three : (get_or s (place + 2) 0 ≡ 0 → ⊥)
        → read_count (drop place s) ≡ Ok (get_or s place 0 % 128 + 128 * (get_or s (place + 1) 0 % 128 + 128 * get_or s (place + 2) 0), 3)
    count-three z = front s place 3 (omega arith) b.first _ 2 (front s (place + 1) 2 (omega arith) b.second _ 1 last-three z) (λ k. z (omega arith))

    none-three : get_or s (place + 2) 0 ≡ 0 → read_count (drop place s) ≡ Err BadCode
    none-three z = front-none s place 3 (omega arith) b.first (front-zero s (place + 1) 2 (omega arith) b.second _ 1 last-three z)

  module _ (w : place + 4 ≤ length s) (b : Four s place) where
    last-four : read_groups 1 7 (drop (place + 2 + 1) s) ≡ Ok (get_or s (place + 3) 0, 1)
    last-four = rw three (group-last s (place + 3) 0 (omega arith) b.fourth)

    count-four : (get_or s (place + 3) 0 ≡ 0 → ⊥)
        → read_count (drop place s) ≡ Ok (get_or s place 0 % 128 + 128 * (get_or s (place + 1) 0 % 128 + 128 * (get_or s (place + 2) 0 % 128 + 128 * get_or s (place + 3) 0)), 4)
    count-four z =
        let u = front s (place + 2) 1 (omega arith) b.third _ 1 last-four z in
        front s place 3 (omega arith) b.first _ 3 (front s (place + 1) 2 (omega arith) b.second _ 2 (rw two u) (λ k. z (omega arith))) (λ k. z (omega arith))

    none-four : get_or s (place + 3) 0 ≡ 0 → read_count (drop place s) ≡ Err BadCode
    none-four z =
        let u = front-zero s (place + 2) 1 (omega arith) b.third _ 1 last-four z in
        front-none s place 3 (omega arith) b.first (front-none s (place + 1) 2 (omega arith) b.second (rw two u))

-- what a count says as a start after prev
later-some : (prev n t : ℕ) → Finite prev → prev < t → Finite t → t ≡ later_in prev n (Ok (t, n))
unfolding later_in
later-some prev n t p l f = rw (eq-eqb n n refl, finite-yes prev p, lt-ltb prev t l, finite-yes t f)

later-before : (prev n t : ℕ) → t ≤ prev → Finite prev → 0 ≡ later_in prev n (Ok (t, n))
unfolding later_in
later-before prev n t l p = rw (eq-eqb n n refl, finite-yes prev p, le-ltb prev t l)

later-none : (prev n : ℕ) (k : Refusal) → 0 ≡ later_in prev n (Err k)
unfolding later_in
later-none prev n k = refl

module _ (prev v t : ℕ) (p : Finite prev) where
  module _ (e : t ≡ prev + v * hour) (l : 128 ≤ v) (h : v < 2097152) where
    pub hours-past : last_instant < t → 0 ≡ later_in prev 3 (from_count prev v 3)
    hours-past k =
        let r = by-hours prev v 3 (Err BadCode) l h (hours-from prev v 3 (Err BadCode) p (range-out 3 (prev + v * hour) (omega arith))) in
        later-none prev 3 BadCode ∙ ap (later_in prev 3) r

    pub hours-are : t ≤ last_instant → t ≡ later_in prev 3 (from_count prev v 3)
    hours-are k =
        let f : Finite t = record { low = omega (arith, p.low); high = k } in
        let r = by-hours prev v 3 (Ok (t, 3)) l h (hours-from prev v 3 (Ok (t, 3)) p (rw (← e) (range-in 3 t f))) in
        later-some prev 3 t p (omega arith) f ∙ ap (later_in prev 3) r

  module _ (e : t ≡ year1800 + v * minute) (l : 2097152 ≤ v) (h : v < 268435456) where
    in-minutes : Ok (t, 4) ≡ from_count prev v 4
    in-minutes = by-minutes prev v 4 (Ok (t, 4)) l (rw (← e) (range-in 4 t (record { low = omega arith; high = omega arith })))

    pub minutes-are : prev < t → t ≡ later_in prev 4 (from_count prev v 4)
    minutes-are k = later-some prev 4 t p k (record { low = omega arith; high = omega arith }) ∙ ap (later_in prev 4) in-minutes

    pub minutes-before : t ≤ prev → 0 ≡ later_in prev 4 (from_count prev v 4)
    minutes-before k = later-before prev 4 t k p ∙ ap (later_in prev 4) in-minutes

-- a count at the front of s is a start, and a refused one none
module _ (prev : ℕ) (s : List ℕ) (n : ℕ) where
  counted : (v m : ℕ) → read_count s ≡ Ok (v, n) → 128 ≤ v → m ≡ later_in prev n (from_count prev v n) → m ≡ later_in prev n (read_moment prev s)
  counted v m e l h = h ∙ ap (later_in prev n) (after-other prev s v n (from_count prev v n) (sym e) (λ z. omega arith) refl)

  uncounted : (k : Refusal) → read_count s ≡ Err k → 0 ≡ later_in prev n (read_moment prev s)
  uncounted k e = later-none prev n k ∙ ap (later_in prev n) (after prev s (Err k) (sym e))

module _ (s : List ℕ) (place prev : ℕ) where
  module _ (w : place + 3 ≤ length s) (e : 3 ≡ start_size s place) where
    pub three-none : get_or s (place + 2) 0 ≡ 0 → 0 ≡ later_in prev 3 (read_moment prev (drop place s))
    three-none z = uncounted prev (drop place s) 3 BadCode (none-three s place w (size-three s place e) z)

    module _ (z : get_or s (place + 2) 0 ≡ 0 → ⊥) (v : ℕ) (i : v ≡ get_or s place 0 % 128 + 128 * (get_or s (place + 1) 0 % 128 + 128 * get_or s (place + 2) 0)) where
      pub three-fits : (128 ≤ v) × (v < 2097152)
      three-fits = let b = (size-three s place e).third in (omega arith, omega arith)

      pub three-is : (m : ℕ) → m ≡ later_in prev 3 (from_count prev v 3) → m ≡ later_in prev 3 (read_moment prev (drop place s))
      three-is m h = counted prev (drop place s) 3 v m (rw i (count-three s place w (size-three s place e) z)) three-fits.0 h

  module _ (w : place + 4 ≤ length s) (e : 4 ≡ start_size s place) where
    pub four-none : get_or s (place + 3) 0 ≡ 0 → 0 ≡ later_in prev 4 (read_moment prev (drop place s))
    four-none z = uncounted prev (drop place s) 4 BadCode (none-four s place w (size-four s place e) z)

    module _ (z : get_or s (place + 3) 0 ≡ 0 → ⊥) (v : ℕ)
        (i : v ≡ get_or s place 0 % 128 + 128 * (get_or s (place + 1) 0 % 128 + 128 * (get_or s (place + 2) 0 % 128 + 128 * get_or s (place + 3) 0))) where
      pub four-fits : (2097152 ≤ v) × (v < 268435456)
      four-fits = let b = (size-four s place e).fourth in (omega arith, omega arith)

      pub four_is : (m : ℕ) → m ≡ later_in prev 4 (from_count prev v 4) → m ≡ later_in prev 4 (read_moment prev (drop place s))
      four_is m h = counted prev (drop place s) 4 v m (rw i (count-four s place w (size-four s place e) z)) (omega (arith, four-fits.0)) h

  pub ticks-are : (n m : ℕ) → n ≡ 9 → m ≡ later_in prev 9 (read_moment prev (take (length s - place) (drop place s))) → m ≡ later_in prev n (read_moment prev (drop place s))
  ticks-are n m e h = rw e (rw (part-from place s) at h)
