-- The intervals of a zone at a place. The code's way, tied to the zone's starts by `listed-filled` (proofs/FillLaws.antt).
use Rattle.std.specs.Prelude.{ℕ, ◌≤◌, ◌<◌, ◌≡◌, List, [], ◌++◌, ℤ, length, drop}
use Rattle.base.specs.Parsed.{Parsed, got, bad, many}
use Rattle.base.specs.Moment.{end_of_time}
use Rattle.intervals.specs.declared.Interval.{Interval}
use Rattle.intervals.specs.Interval.{parse_interval, start_of}
use Rattle.zones.specs.Parse.{parse_intervals, parse_zone}
use Rattle.zone_starts.specs.Starts.{list_starts}

-- n intervals at a place, as they are read
abbrev pub intervals_at : ℕ → List ℕ → ℕ → ℕ → Parsed (List Interval)
intervals_at pool s n at = many (parse_interval pool) start_of n end_of_time (drop at s)

abbrev pub starts_in : Parsed (List Interval) → List ℤ
starts_in (got is q) = list_starts is
starts_in (bad k) = []

-- their starts
unfoldable pub list_of : ℕ → List ℕ → ℕ → ℕ → List ℤ
list_of pool s n at = starts_in (intervals_at pool s n at)

-- a table with some entries at its front
unfoldable pub over : List ℤ → List ℤ → List ℤ
over xs d = xs ++ drop (length xs) d

-- the n intervals of a zone s stand at a place
pub record ListedAt (pool : ℕ) (s : List ℕ) (n at : ℕ) : Type 0 where
  pub id : ℕ
  pub goes : parse_zone pool s ≡ parse_intervals pool id n (drop at s)
  pub inside : at ≤ length s
  pub most : n ≤ 4096

-- n intervals are read at a place
pub record CheckedAt (pool : ℕ) (s : List ℕ) (n at : ℕ) : Type 0 where
  pub list : List Interval
  pub rest : List ℕ
  pub read : intervals_at pool s n at ≡ got list rest
  pub inside : at ≤ length s
  pub most : n ≤ 4096
