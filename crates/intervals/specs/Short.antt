-- An interval whose name, wall offset and savings take a byte each, as is usual: the short way to it. The code's way, tied to `parse_interval` by `start-means` (proofs/ShortLaws.antt).
use Rattle.std.specs.Prelude.{ℕ, ◌+◌, ◌*◌, Bool, List, ltb, get_or}
use Rattle.base.specs.Pick.{pick, both}
use Rattle.offsets.specs.Offset.{in_day}
use Rattle.places.specs.Short.{short_at}
use Rattle.intervals.specs.Interval.{standard_sum}
use Rattle.intervals.specs.declared.Interval.{Interval}

-- they stand at a place behind the start m, the offsets in half hours
abbrev pub short_interval : List ℕ → ℕ → ℕ → Interval
short_interval s place m = record {
  start = m;
  name = get_or s place 0;
  wall = get_or s (place + 1) 0 * 1800000;
  savings = get_or s (place + 2) 0 * 1800000;
}

-- the name is a number of the pool, and the standard offset is inside 24 hours
unfoldable pub short_ok : List ℕ → ℕ → ℕ → Bool
short_ok s pool place =
    both (ltb (get_or s place 0) pool) (in_day (standard_sum (get_or s (place + 1) 0 * 1800000) (get_or s (place + 2) 0 * 1800000)))

-- the start of such an interval, in n bytes, where it is so; else 0
unfoldable pub short_start : List ℕ → ℕ → ℕ → ℕ → ℕ → ℕ
short_start s pool place n prev = pick (short_ok s pool (place + n)) (short_at s place n prev) 0
