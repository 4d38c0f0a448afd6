-- The short ways: codes of one and two bytes at a place, and an interval of them. Assumes nothing.
use Rattle.base.specs.declared.Refusal.{Refusal}
use Rattle.std.specs.Prelude.{Err, Ok}
use Rattle.base.specs.Coded.{Coded}
use Rattle.base.specs.declared.Refusal.TheVariants.{BadCode, BadData}
use mathlib.Core.Path.{◌≡◌, refl, sym, ◌∙◌}
use mathlib.Core.Bool.{Bool, true, false}
use mathlib.Core.List.{List}
use Prim.Native.Nat.{ℕ, suc, ◌+◌, ◌-◌, ◌*◌, ◌%◌, ◌≤◌, ◌<◌}
use native.Mathlib.Omega.{arith}
use native.Mathlib.Numerals.{add-one}
use native.Mathlib.Nat.{mod-eq_of_lt}
use lib.Dec.{ltb, leb, eqb}
use lib.ListN.{length, take, drop, get_or, drop_of_length-le}
use lib.Seq.{drop-drop, drop-cons}
use borrow.Author.Tests.{lt-ltb, le-ltb, le-leb, lt-leb, ne_eqb, ltb-true, leb-true, eqb-true}
use Rattle.base.specs.Pick.{pick, both}
use Rattle.base.specs.Moment.{Finite, finite, first_instant, last_instant}
use Rattle.base.specs.Parsed.{parse}
use Rattle.base.proofs.Parts.{part-from}
use Rattle.base.proofs.Tests.{both_left, both_right, pick-holds}
use Rattle.base.proofs.MomentLaws.{finite-true, finite-yes, finite-low, finite-high}
use Rattle.counts.specs.Groups.{read_groups}
use Rattle.counts.specs.Count.{read_count}
use Rattle.counts.proofs.CountLaws.{byte-count}
use Rattle.offsets.specs.Offset.{read_sum}
use Rattle.offsets.proofs.OffsetLaws.{fine_of}
use Rattle.transitions.specs.Transition.{hour, from_count, read_moment}
use Rattle.transitions.specs.Later.{Later, later_in}
use Rattle.transitions.proofs.LaterLaws.{later_of, not-later}
use Rattle.places.specs.Placed.{at, no, Stands}
use Rattle.places.specs.Short.{two_bytes, hours_in, half_hours, short_details, instant_after, short_at, ShortDetails, Short}

-- what reads at a place stands there
pub reads : (read : List ℕ → Coded ℕ) (s : List ℕ) (place v n : ℕ) → read (drop place s) ≡ Ok (v, n) → place + n ≤ length s
    → Stands s (parse read (drop place s)) (at v (place + n))
reads read s place v n e h = record { means = rw (e, drop-drop); within = h }

pub refuses : (read : List ℕ → Coded ℕ) (s : List ℕ) (place : ℕ) (k : Refusal) → read (drop place s) ≡ Err k → Stands s (parse read (drop place s)) (no k)
refuses read s place k e = record { means = rw e; within = tt }

module _ (s : List ℕ) (place : ℕ) where
  pub no-count : length s ≤ place → read_count (drop place s) ≡ Err BadData
  unfolding read_groups
  no-count h = rw (drop_of_length-le s h)

  pub no-sum : length s ≤ place → read_sum (drop place s) ≡ Err BadData
  unfolding read_sum
  no-sum h = rw (drop_of_length-le s h)

  module _ (h : place < length s) where
    pub zero-sum : get_or s place 0 ≡ 0 → read_sum (drop place s) ≡ Err BadCode
    unfolding read_sum
    zero-sum e = rw (drop-cons s place 0 h, e) refl

    pub half-hours : (get_or s place 0 ≡ 0 → ⊥) → get_or s place 0 < 96 → read_sum (drop place s) ≡ Ok (get_or s place 0 * 1800000, 1)
    unfolding read_sum
    half-hours n l =
        rw (drop-cons s place 0 h, lt-ltb (get_or s place 0) 128 (omega arith))
        (fine_of 1 172800000 (get_or s place 0 * 1800000) (record { least = omega arith; most = omega arith; fine = λ e. omega (arith, sym (mod-eq_of_lt {n = get_or s place 0 * 1800000} {m = 172800000} (omega arith)) ∙ e) }))

  two-bytes : place + 2 ≤ length s → 128 ≤ two_bytes s place → read_count (drop place s) ≡ Ok (two_bytes s place, 2)
  unfolding two_bytes read_groups
  two-bytes h = go (both (leb 128 b) (ltb d 128)) refl
    where
      b : ℕ
      b = get_or s place 0

      d : ℕ
      d = get_or s (place + 1) 0

      go : (t : Bool) → both (leb 128 b) (ltb d 128) ≡ t → 128 ≤ pick t (b % 128 + 128 * d) 0
          → read_count (drop place s) ≡ Ok (pick t (b % 128 + 128 * d) 0, 2)
      go true e k =
          let n : get_or s (suc place) 0 < 128 = rw (add-one place) at (ltb-true d 128 (both_right (leb 128 b) _ e)) in
          let o : get_or s (suc place) 0 ≡ 0 → ⊥ = λ z. omega (arith, rw (add-one place) at k) in
          rw (
            drop-cons s place 0 (omega arith),
            le-ltb b 128 (leb-true 128 b (both_left (leb 128 b) _ e)),
            add-one place,
            drop-cons s (suc place) 0 (omega arith),
            lt-ltb (get_or s (suc place) 0) 128 n,
            ne_eqb (get_or s (suc place) 0) 0 o,
          )
      go false e k = absurd (omega arith)

-- hours after an instant, where they give one
record HoursAfter (prev v t : ℕ) : Type 0 where
  low : 128 ≤ v
  high : v < 16384
  previous : Finite prev
  instant : Finite t
  sum : prev + v * hour ≡ t

hours-in : (prev v : ℕ) → 0 < hours_in prev v → HoursAfter prev v (hours_in prev v)
unfolding hours_in
hours-in prev v = go (both (both (leb 128 v) (ltb v 16384)) (both (finite prev) (finite (prev + v * hour)))) refl
  where
    go : (t : Bool) → both (both (leb 128 v) (ltb v 16384)) (both (finite prev) (finite (prev + v * hour))) ≡ t
        → 0 < pick t (prev + v * hour) 0 → HoursAfter prev v (pick t (prev + v * hour) 0)
    go true e k =
        let a = both_left (both (leb 128 v) (ltb v 16384)) _ e in
        let b = both_right (both (leb 128 v) (ltb v 16384)) _ e in
        record {
          low = leb-true 128 v (both_left (leb 128 v) _ a);
          high = ltb-true v 16384 (both_right (leb 128 v) _ a);
          previous = finite-true prev (both_left (finite prev) _ b);
          instant = finite-true (prev + v * hour) (both_right (finite prev) _ b);
          sum = refl;
        }
    go false e k = absurd (omega arith)

-- ways out of the code
module _ (prev v : ℕ) where
  pub hours-few : v < 128 → 0 ≡ hours_in prev v
  unfolding hours_in
  hours-few h = rw (lt-leb 128 v h)

  pub hours-many : 16383 < v → 0 ≡ hours_in prev v
  unfolding hours_in
  hours-many h = rw (le-leb 128 v (omega arith), le-ltb v 16384 (omega arith))

  module _ (l : 128 ≤ v) (h : v ≤ 16383) where
    two-byte-count : both (leb 128 v) (ltb v 16384) ≡ true
    two-byte-count = rw (le-leb 128 v l, lt-ltb v 16384 (omega arith))

    pub hours-early : prev < first_instant → 0 ≡ hours_in prev v
    unfolding hours_in
    hours-early e = rw (two-byte-count, finite-low prev e)

    pub hours-late : last_instant < prev → 0 ≡ hours_in prev v
    unfolding hours_in
    hours-late e = rw (two-byte-count, finite-high prev e)

    module _ (p : first_instant ≤ prev) (q : prev ≤ last_instant) where
      pub hours-past : last_instant < prev + v * hour → 0 ≡ hours_in prev v
      unfolding hours_in
      hours-past e = rw (two-byte-count, finite-yes prev (record { low = p; high = q }), finite-high (prev + v * hour) e)

      pub hours-are : prev + v * hour ≤ last_instant → prev + v * hour ≡ hours_in prev v
      unfolding hours_in
      hours-are e =
          rw (two-byte-count, finite-yes prev (record { low = p; high = q }), finite-yes (prev + v * hour) (record { low = omega arith; high = e }))

hours-from : (prev v t : ℕ) → HoursAfter prev v t → from_count prev v 2 ≡ Ok (t, 2)
unfolding from_count
hours-from prev v t h =
    rw (
      ne_eqb v 0 (λ e. omega (arith, h.low)),
      ne_eqb v 1 (λ e. omega (arith, h.low)),
      le-ltb v 128 h.low,
      lt-ltb v 2097152 (omega (arith, h.high)),
      finite-yes prev h.previous,
      h.sum,
      finite-yes t h.instant,
    )

-- what an instant after prev is, in two bytes and in nine
module _ (prev : ℕ) (s : List ℕ) (place : ℕ) where
  pub hours-later : place + 2 ≤ length s → Later prev (drop place s) 2 (hours_in prev (two_bytes s place))
  unfolding read_moment
  hours-later w =
      record {
        previous = λ l. (hours-in prev v l).previous;
        rises = λ l. omega (arith, (hours-in prev v l).low, (hours-in prev v l).sum);
        instant = λ l. (hours-in prev v l).instant;
        moment = λ l.
            let h = hours-in prev v l in
            rw (two-bytes s place w h.low, ne_eqb v 2 (λ e. omega (arith, h.low))) (hours-from prev v _ h);
      }
    where
      v : ℕ
      v = two_bytes s place

  instant-later : (n : ℕ) → place + n ≤ length s → Later prev (drop place s) n (instant_after s place n prev)
  unfolding instant_after
  instant-later n w =
      pick-holds (Later prev (drop place s) n) (eqb n 2)
      (λ e. let z : n ≡ 2 = eqb-true n 2 e in rw z (hours-later (omega arith)))
      (λ _. pick-holds (Later prev (drop place s) n) (eqb n 9)
      (λ e. let z : n ≡ 9 = eqb-true n 9 e in rw z (later_of prev 9 _ (drop place s) refl))
      (λ _. not-later prev n (drop place s)))

pub half-none : (b : ℕ) → b ≡ 0 → false ≡ half_hours b
unfolding half_hours
half-none b e = rw e

pub half-some : (b : ℕ) → (b ≡ 0 → ⊥) → ltb b 96 ≡ half_hours b
unfolding half_hours
half-some b n = rw (lt-ltb 0 b (omega arith))

-- an offset of half hours at a place
half-hours-at : (s : List ℕ) (place : ℕ) → place < length s → half_hours (get_or s place 0) ≡ true
    → Stands s (parse read_sum (drop place s)) (at (get_or s place 0 * 1800000) (place + 1))
unfolding half_hours
half-hours-at s place l e =
    let b : ℕ = get_or s place 0 in
    let a : 0 < b = ltb-true 0 b (both_left (ltb 0 b) _ e) in
    reads read_sum s place _ 1 (half-hours s place l (λ z. omega arith) (ltb-true b 96 (both_right (ltb 0 b) _ e))) (omega arith)

details-at : (s : List ℕ) (place : ℕ) → place + 3 ≤ length s → short_details s place ≡ true → ShortDetails s place
unfolding short_details
details-at s place l e =
    let two : place + 1 + 1 ≡ place + 2 = omega arith in
    let three : place + 2 + 1 ≡ place + 3 = omega arith in
    let a = both_left (ltb (get_or s place 0) 128) _ e in
    let b = both_right (ltb (get_or s place 0) 128) _ e in
    record {
      name = reads read_count s place _ 1 (byte-count s place (omega arith) (ltb-true _ _ a)) (omega arith);
      wall = rw (← two) (half-hours-at s (place + 1) (omega arith) (both_left (half_hours (get_or s (place + 1) 0)) _ b));
      savings = rw (← three) (half-hours-at s (place + 2) (omega arith) (both_right (half_hours (get_or s (place + 1) 0)) _ b));
    }

pub details-mean : (s : List ℕ) (place : ℕ) (t : Bool) → place + 3 ≤ length s → t ≡ short_details s place → t ≡ true → ShortDetails s place
details-mean s place t l e f = details-at s place l (sym e ∙ f)

-- ways out of the code
module _ (s : List ℕ) (place : ℕ) where
  pub details-long : 127 < get_or s place 0 → false ≡ short_details s place
  unfolding short_details
  details-long h = rw (le-ltb (get_or s place 0) 128 (omega arith))

  module _ (t : Bool) (l : get_or s place 0 ≤ 127) (e : t ≡ half_hours (get_or s (place + 1) 0)) where
    pub details-are : (u : Bool) → t ≡ true → u ≡ half_hours (get_or s (place + 2) 0) → u ≡ short_details s place
    unfolding short_details
    details-are u f g = rw (lt-ltb (get_or s place 0) 128 (omega arith), ← e, f) g

    pub details-none : t ≡ false → false ≡ short_details s place
    unfolding short_details
    details-none f = rw (lt-ltb (get_or s place 0) 128 (omega arith), ← e, f)

module _ (s : List ℕ) (place n prev : ℕ) where
  -- where it is not 0, an instant after prev stands at the place in n bytes, and behind it codes of a byte each
  pub short-means : (m : ℕ) → m ≡ short_at s place n prev → (m ≡ 0 → ⊥) → Short s place n prev m
  unfolding short_at
  short-means m e z = go (both (leb (place + n + 3) (length s)) (short_details s (place + n))) refl e
    where
      go : (t : Bool) → both (leb (place + n + 3) (length s)) (short_details s (place + n)) ≡ t → m ≡ pick t (instant_after s place n prev) 0
          → Short s place n prev m
      go true q k =
          let w : place + n + 3 ≤ length s = leb-true (place + n + 3) (length s) (both_left (leb (place + n + 3) (length s)) _ q) in
          let l : 0 < m = omega arith in
          let h : Later prev (drop place s) n m = rw k (instant-later prev s place n (omega arith)) in
          record {
            previous = h.previous l;
            rises = h.rises l;
            instant = h.instant l;
            moment = reads (read_moment prev) s place m n (h.moment l) (omega arith);
            details = details-at s (place + n) w (both_right (leb (place + n + 3) (length s)) _ q);
          }
      go false q k = absurd (z k)

  -- ways out of the code
  pub short_cut : place ≤ length s → length s - place < n + 3 → 0 ≡ short_at s place n prev
  unfolding short_at
  short_cut h l = rw (lt-leb (place + n + 3) (length s) (omega arith))

  pub short-is : (t : Bool) (m : ℕ) → n + 3 ≤ length s - place → t ≡ short_details s (place + n) → m ≡ pick t (instant_after s place n prev) 0
      → m ≡ short_at s place n prev
  unfolding short_at
  short-is t m l d e = rw (le-leb (place + n + 3) (length s) (omega arith), ← d) e

pub ticks-at : (prev : ℕ) (s : List ℕ) (place n t : ℕ) → n ≡ 9 → t ≡ later_in prev 9 (read_moment prev (take (length s - place) (drop place s)))
    → t ≡ instant_after s place n prev
unfolding instant_after
ticks-at prev s place n t e h = rw e (rw (part-from place s) at h)
