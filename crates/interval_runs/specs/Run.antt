-- Intervals in a row whose name and offsets take a byte each, of which an instant needs only the last. The code's way, tied to the scan of the
-- intervals by `run_ran` (proofs/RunLaws.antt).
use Rattle.std.specs.Prelude.{ℕ, zero, suc, ◌+◌, ◌-◌, ◌*◌, ◌≤◌, ◌<◌, ◌≡◌, Bool, true, false, List, ltb, leb, eqb, length, drop}
use Rattle.base.specs.Pick.{pick, both}
use Rattle.base.specs.Moment.{Finite, finite, last_instant, end_of_time}
use Rattle.counts.specs.Fixed.{fixed_from}
use Rattle.signed.specs.Instant.{from_raw}
use Rattle.transitions.specs.Transition.{hour, read_moment}
use Rattle.transitions.specs.Later.{later_in}
use Rattle.places.specs.Short.{two_bytes, short_details}
use Rattle.places.specs.Long.{start_size}
use Rattle.pieces.specs.Form.{code_preferred}
use Rattle.intervals.specs.Short.{short_ok}
use Rattle.interval_runs.specs.declared.Run.{Run}

-- the hours of a start of two bytes; 0 where no such start stands at the place
unfoldable pub hours_at : List ℕ → ℕ → ℕ
hours_at s place = pick (leb 128 (two_bytes s place)) (two_bytes s place) 0

-- a name of the pool and two offsets stand at a place, in a byte each
abbrev pub details_at : List ℕ → ℕ → ℕ → Bool
details_at s pool place = both (short_details s place) (short_ok s pool place)

-- where r is true, they stand at one place if at the other
pub record SameDetails (s : List ℕ) (place old : ℕ) (r : Bool) : Type 0 where
  pub to : r ≡ true → (pool : ℕ) → details_at s pool place ≡ details_at s pool old

-- the start of such an interval of five bytes behind prev, in hours; 0 where other codes stand there. It is one where it and prev are instants
-- (`step_start`, proofs/RunLaws.antt)
unfoldable pub step_of : List ℕ → ℕ → ℕ → ℕ → ℕ
step_of s pool place prev = pick (both (leb 128 (two_bytes s place)) (details_at s pool (place + 2))) (prev + two_bytes s place * hour) 0

-- a place behind two intervals of five bytes
pub record Behind (s : List ℕ) (pool place : ℕ) : Type 0 where
  pub far : 10 ≤ place
  pub before_last : details_at s pool (place - 8) ≡ true
  pub last : details_at s pool (place - 3) ≡ true

-- the same of an interval whose start takes n bytes, more than two, where that is in the writer's form or `form` doesn't ask for it
unfoldable pub long_step_of : List ℕ → ℕ → Bool → ℕ → ℕ → ℕ → ℕ
long_step_of s pool form place n prev =
    pick (both (both (short_details s (place + n)) (short_ok s pool (place + n))) (pick form (code_preferred prev (drop place s)) true))
    (later_in prev n (read_moment prev (drop place s))) 0

-- the same by the size of the start
unfoldable pub next_of : List ℕ → ℕ → Bool → ℕ → ℕ → ℕ
next_of s pool form place prev =
    pick (eqb (start_size s place) 2) (step_of s pool place prev) (long_step_of s pool form place (start_size s place) prev)

-- the place behind the interval
abbrev pub behind : List ℕ → ℕ → ℕ
behind s place = place + (start_size s place + 3)

abbrev pub goes_on : List ℕ → ℕ → Bool → ℕ → ℕ → ℕ → Bool
goes_on s pool form stop place last =
    both (leb (behind s place) (length s)) (both (ltb 0 (next_of s pool form place last)) (leb (next_of s pool form place last) stop))

abbrev pub run_at : ℕ → ℕ → ℕ → Run
run_at left place last = record { left = left; place = place; last = last }

-- at most so many from a place on, behind the start `last`, none of which starts after stop
unfoldable pub run_from : List ℕ → ℕ → Bool → ℕ → ℕ → ℕ → ℕ → Run
run_from s pool form stop zero place last = run_at zero place last
run_from s pool form stop (suc k) place last =
    pick (goes_on s pool form stop place last) (run_from s pool form stop k (behind s place) (next_of s pool form place last)) (run_at (suc k) place last)

-- none behind what is no instant
unfoldable pub run_of : List ℕ → ℕ → Bool → ℕ → ℕ → ℕ → ℕ → Run
run_of s pool form stop left place last = pick (finite last) (run_from s pool form stop left place last) (run_at left place last)

-- a run from `from` on comes to r: what is left of it from there on is the same
pub record Passed (s : List ℕ) (pool : ℕ) (form : Bool) (stop : ℕ) (from r : Run) : Type 0 where
  pub fewer : r.left ≤ from.left
  pub inside : r.place ≤ length s
  pub instant : Finite r.last
  pub same : run_from s pool form stop from.left from.place from.last ≡ run_from s pool form stop r.left r.place r.last

-- whether forms are asked for or not, and it ends at r, unless a longer start stands there
pub record Stopped (s : List ℕ) (pool stop : ℕ) (from r : Run) : Type 0 where
  pub passed : (form : Bool) → Passed s pool form stop from r
  pub ends : start_size s r.place ≡ 2 → (form : Bool) → r ≡ run_from s pool form stop r.left r.place r.last

-- r is how many times size there is in room, at most n
pub record Fitting (n room size r : ℕ) : Type 0 where
  pub most : r ≤ n
  pub fits : size * r ≤ room
  pub all : r < n → room < size * r + size

-- r, where it is an instant, is that of the ticks in eight bytes at a place
pub record TicksAt (s : List ℕ) (place r : ℕ) : Type 0 where
  pub to : Finite r → r ≡ from_raw (fixed_from 8 0 (drop place s))

-- r, where it is not 0, is the next start of a run that asks for no forms, if it is an instant; it is in ticks, with details of a byte each
pub record TicksStep (s : List ℕ) (pool place prev r : ℕ) : Type 0 where
  pub size : 0 < r → start_size s place ≡ 9
  pub details : 0 < r → details_at s pool (place + 9) ≡ true
  pub start : 0 < r → r ≤ last_instant → r ≡ long_step_of s pool false place 9 prev

-- the last start that a run may have, where `end` is the first start after t, or end of time while there is none: any instant, and else t
unfoldable pub stop_of : ℕ → ℕ → ℕ
stop_of end t = pick (ltb end end_of_time) last_instant (pick (ltb last_instant t) last_instant t)
