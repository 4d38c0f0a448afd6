-- Two offsets and a start of four bytes behind an interval's name. Assumes nothing.
use Rattle.std.specs.Prelude.{Ok}
use mathlib.Core.Path.{◌≡◌, refl}
use mathlib.Core.Bool.{Bool, true}
use mathlib.Core.List.{List}
use Prim.Native.Nat.{ℕ, suc, ◌+◌, ◌-◌, ◌*◌, ◌%◌, ◌≤◌, ◌<◌}
use native.Mathlib.Omega.{arith}
use native.Mathlib.Numerals.{add-one}
use lib.Dec.{ltb}
use lib.ListN.{length, drop, get_or}
use lib.Seq.{drop-cons}
use borrow.Author.Tests.{lt-ltb, le-ltb, ne_eqb, ltb-true}
use Rattle.base.specs.Moment.{Finite, first_instant, last_instant}
use Rattle.base.specs.Parsed.{parse}
use Rattle.base.proofs.Tests.{both_left, both_right}
use Rattle.base.proofs.MomentLaws.{finite-yes}
use Rattle.counts.specs.Groups.{read_groups}
use Rattle.counts.specs.Count.{read_count}
use Rattle.offsets.specs.Offset.{read_sum}
use Rattle.transitions.specs.Transition.{hour, from_count, read_moment}
use Rattle.places.specs.Placed.{at, Stands}
use Rattle.places.specs.Short.{half_hours}
use Rattle.places.proofs.PlaceLaws.{on, here, stands-else}
use Rattle.places.proofs.ShortLaws.{reads, half-hours}
use Rattle.mentions.specs.declared.Stage.TheVariants.{Interval}
use Rattle.mentions.specs.Walk.{behind_start, behind_details}
use Rattle.zone_mentions.specs.declared.Start.{Start}
use Rattle.zone_mentions.specs.Short.{HoursAt, ShortAt, StartAt}

pub no-hours : (s : List ℕ) (place prev : ℕ) → HoursAt s place prev 0
no-hours s place prev = record { moment = λ z. absurd (z refl) }

pub not_short : (s : List ℕ) (place prev : ℕ) → ShortAt s place prev 0
not_short s place prev = record { ahead = λ z. absurd (z refl) }

module _ (s : List ℕ) (place : ℕ) (h : place + 2 ≤ length s) where
  abbrev number : ℕ
  number = get_or s place 0 % 128 + 128 * get_or s (place + 1) 0

  module _ (b : 128 ≤ get_or s place 0) (n : get_or s (place + 1) 0 ≡ 0 → ⊥) (l : get_or s (place + 1) 0 ≤ 127) where
    count-is : read_count (drop place s) ≡ Ok (number, 2)
    unfolding read_groups
    count-is =
        rw (
          drop-cons s place 0 (omega arith),
          le-ltb (get_or s place 0) 128 b,
          add-one place,
          drop-cons s (suc place) 0 (omega arith),
          lt-ltb (get_or s (suc place) 0) 128 (rw (← add-one place) (omega arith)),
          ne_eqb (get_or s (suc place) 0) 0 (rw (← add-one place) n),
        )

    -- "128 to 2097151 hours after the previous"
    pub hours-at : (prev : ℕ) → first_instant ≤ prev → prev ≤ last_instant → prev + number * hour ≤ last_instant → HoursAt s place prev (prev + number * hour)
    unfolding read_moment from_count
    hours-at prev p q e =
        record {
          moment = λ z. reads (read_moment prev) s place _ 2 (rw (
            count-is,
            ne_eqb number 2 (λ k. omega arith),
            ne_eqb number 0 (λ k. omega arith),
            ne_eqb number 1 (λ k. omega arith),
            le-ltb number 128 (omega arith),
            lt-ltb number 2097152 (omega arith),
            finite-yes prev (record { low = p; high = q }),
            finite-yes (prev + number * hour) (record { low = omega arith; high = e }),
          )) h;
        }

half-hours-at : (s : List ℕ) (place : ℕ) → place < length s → half_hours (get_or s place 0) ≡ true
    → Stands s (parse read_sum (drop place s)) (at (get_or s place 0 * 1800000) (place + 1))
unfolding half_hours
half-hours-at s place l e =
    let b : ℕ = get_or s place 0 in
    let a : 0 < b = ltb-true 0 b (both_left (ltb 0 b) _ e) in
    reads read_sum s place _ 1 (half-hours s place l (λ z. omega arith) (ltb-true b 96 (both_right (ltb 0 b) _ e))) (omega arith)

pub short-at : (s : List ℕ) (place prev m : ℕ) → place + 4 ≤ length s → half_hours (get_or s place 0) ≡ true → half_hours (get_or s (place + 1) 0) ≡ true
    → HoursAt s (place + 2) prev m → ShortAt s place prev m
unfolding behind_details behind_start
short-at s place prev m h a b r =
    record {
      ahead = λ z left n.
          let two : place + 1 + 1 ≡ place + 2 = omega arith in
          let four : place + 2 + 2 ≡ place + 4 = omega arith in
          on (half-hours-at s place (omega arith) a) _ _ _ _ refl
          (on (rw two at (half-hours-at s (place + 1) (omega arith) b)) _ _ _ _ refl
          (on (rw four at (r.moment z)) _ _ _ _ refl (stands-else _ _ _ _ _ (ne_eqb left 0 n) (here _ _ _ _ refl h))));
    }

-- ---- codes of any length
pub no_start : (s : List ℕ) (place prev : ℕ) (r : Start) → r.place ≡ 0 → StartAt s place prev r
no_start s place prev r e = record { ahead = λ z. absurd (z e) }

pub start-behind : (s : List ℕ) (place prev x a y b m e : ℕ) → Stands s (parse read_sum (drop place s)) (at x a) → Stands s (parse read_sum (drop a s)) (at y b)
    → Stands s (parse (read_moment prev) (drop b s)) (at m e) → StartAt s place prev (record { start = m; place = e })
unfolding behind_details behind_start
start-behind s place prev x a y b m e h i j =
    record {
      ahead = λ z left n. on h _ _ _ _ refl (on i _ _ _ _ refl (on j _ _ _ _ refl (stands-else _ _ _ _ _ (ne_eqb left 0 n) (here _ _ _ _ refl j.within))));
    }

pub short-is : (s : List ℕ) (place prev m : ℕ) → ShortAt s place prev m → 0 < m → StartAt s place prev (record { start = m; place = place + 4 })
short-is s place prev m a h = record { ahead = λ z left n. a.ahead (λ y. omega arith) left n }
