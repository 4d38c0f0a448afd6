-- The tail: its intervals, and which of them holds an instant. The properties are to be believed; `lookup` is the code's way, tied to them by `lookup-is` (proofs/LookupLaws.antt).
use Rattle.std.specs.Prelude.{◌≡◌, true, ℕ, ◌+◌, ◌-◌, ◌≤◌, ◌<◌, min, max, ltb}
use Rattle.base.specs.Pick.{pick}
use Rattle.base.specs.Moment.{Finite, end_of_time}
use Rattle.recurrence.specs.declared.Tail.{Tail}
use Rattle.recurrence.specs.declared.Interval.{Interval}
use Rattle.rules.specs.Rules.{RuleOk}
use Rattle.occurrences.specs.Rules.{occurrence, subtracted}
use Rattle.rules.specs.Fields.{sum_ok}
use Rattle.recurrence.specs.Search.{IsNext, IsLast, next_after, last_at}

-- a tail's ranges: a finite start, offsets inside 24 hours, both rules in theirs
pub record TailOk (tail : Tail) : Type 0 where
  pub start-ok : Finite tail.start
  pub offset-high : tail.offset < 172800000
  pub sum-ok : sum_ok tail.offset tail.savings ≡ true
  pub standard-ok : RuleOk tail.standard
  pub daylight-ok : RuleOk tail.daylight

-- standard plus savings, with 86,400,000 added once
abbrev pub wall_of : Tail → ℕ
wall_of tail = tail.offset + tail.savings - 86400000

-- when each rule falls in a year: "(wall) the wall offset of the other rule: standard for the daylight rule, standard plus savings for
-- the standard rule"
unfoldable pub standard_in : Tail → ℕ → ℕ
standard_in tail = occurrence tail.standard (subtracted tail.standard.mode (wall_of tail) tail.offset)

unfoldable pub daylight_in : Tail → ℕ → ℕ
daylight_in tail = occurrence tail.daylight (subtracted tail.daylight.mode tail.offset tail.offset)

-- x has what is in force after t, and its end. "take each rule's earliest occurrence strictly after the instant, over all years. If the
-- daylight one is later than the standard one, daylight is in force, else standard. The end is the earlier of them, or end of time if
-- outside the range": end of time is the number just past the last instant. Standard time has no savings, which is 86,400,000
pub record InForce (tail : Tail) (t : ℕ) (x : Interval) : Type 0 where
  pub next-standard : ℕ
  pub next-daylight : ℕ
  pub is-next-standard : IsNext (standard_in tail) t next-standard
  pub is-next-daylight : IsNext (daylight_in tail) t next-daylight
  pub which : x.daylight ≡ ltb next-standard next-daylight
  pub wall-is : x.wall ≡ pick x.daylight (wall_of tail) tail.offset
  pub savings-is : x.savings ≡ pick x.daylight tail.savings 86400000
  pub end_is : x.end ≡ min (min next-standard next-daylight) end_of_time

-- x is the answer at t: "the start is the latest occurrence at or before the instant, but not before the tail's start"
pub record IsLookup (tail : Tail) (t : ℕ) (x : Interval) : Type 0 where
  pub in-force : InForce tail t x
  pub last-standard : ℕ
  pub last-daylight : ℕ
  pub is-last-standard : IsLast (standard_in tail) t last-standard
  pub is-last-daylight : IsLast (daylight_in tail) t last-daylight
  pub start_is : x.start ≡ max tail.start (max last-standard last-daylight)

-- the answer at t, computed (lookup-is in proofs/LookupLaws.antt)
unfoldable pub lookup : Tail → ℕ → Interval
lookup tail t =
    record {
      daylight = ltb (next_after (standard_in tail) t) (next_after (daylight_in tail) t);
      wall = pick (ltb (next_after (standard_in tail) t) (next_after (daylight_in tail) t)) (wall_of tail) tail.offset;
      savings = pick (ltb (next_after (standard_in tail) t) (next_after (daylight_in tail) t)) tail.savings 86400000;
      start = max tail.start (max (last_at (standard_in tail) t) (last_at (daylight_in tail) t));
      end = min (min (next_after (standard_in tail) t) (next_after (daylight_in tail) t)) end_of_time;
    }

-- "An interval holds its start and not its end."
pub record Holds (x : Interval) (t : ℕ) : Type 0 where
  pub from : x.start ≤ t
  pub to : t < x.end

-- the intervals of a tail, with no instant asked: each starts at the tail's start or at a later occurrence of either rule, and has what is
-- in force after its start (proofs/IntervalLaws.antt: each instant from the tail's start on is in exactly one)
pub record Occurs (f : ℕ → ℕ) (n : ℕ) : Type 0 where
  pub year : ℕ
  pub at : n ≡ f year

pub data Starts (tail : Tail) (n : ℕ) : Type 0 where
  with-tail : n ≡ tail.start → Starts tail n
  with-standard : tail.start < n → Occurs (standard_in tail) n → Starts tail n
  with-daylight : tail.start < n → Occurs (daylight_in tail) n → Starts tail n

pub record IsInterval (tail : Tail) (x : Interval) : Type 0 where
  pub starts : Starts tail x.start
  pub finite : Finite x.start
  pub in-force : InForce tail x.start x
