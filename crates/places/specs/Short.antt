-- The short ways to the codes of an interval: what they give, by the bytes, and what that says of the codes.
-- The code's way, tied to the codes by `short-means` (proofs/ShortLaws.antt).
use Rattle.std.specs.Prelude.{ℕ, ◌+◌, ◌*◌, ◌%◌, ◌<◌, Bool, List, ltb, leb, eqb, length, drop, get_or}
use Rattle.base.specs.Pick.{pick, both}
use Rattle.base.specs.Moment.{Finite, finite}
use Rattle.base.specs.Parsed.{parse}
use Rattle.counts.specs.Count.{read_count}
use Rattle.offsets.specs.Offset.{read_sum}
use Rattle.transitions.specs.Transition.{hour, read_moment}
use Rattle.transitions.specs.Later.{later_in}
use Rattle.places.specs.Placed.{at, Stands}

-- the number of two bytes at a place, seven bits in each, the top bit set on the first alone; else 0. Below 128 it is no count of two bytes
unfoldable pub two_bytes : List ℕ → ℕ → ℕ
two_bytes s place =
    pick (both (leb 128 (get_or s place 0)) (ltb (get_or s (place + 1) 0) 128)) (get_or s place 0 % 128 + 128 * get_or s (place + 1) 0) 0

-- the instant v hours after the instant prev, where v is a count of two bytes; else 0
unfoldable pub hours_in : ℕ → ℕ → ℕ
hours_in prev v =
    pick (both (both (leb 128 v) (ltb v 16384)) (both (finite prev) (finite (prev + v * hour)))) (prev + v * hour) 0

-- the byte b is an offset of half hours
unfoldable pub half_hours : ℕ → Bool
half_hours b = both (ltb 0 b) (ltb b 96)

-- a count of one byte and two offsets of half hours stand at a place
unfoldable pub short_details : List ℕ → ℕ → Bool
short_details s place = both (ltb (get_or s place 0) 128) (both (half_hours (get_or s (place + 1) 0)) (half_hours (get_or s (place + 2) 0)))

-- the instant after the instant prev that stands at a place in n bytes, two of hours or nine of ticks; else 0
unfoldable pub instant_after : List ℕ → ℕ → ℕ → ℕ → ℕ
instant_after s place n prev =
    pick (eqb n 2) (hours_in prev (two_bytes s place))
    (pick (eqb n 9) (later_in prev 9 (read_moment prev (drop place s))) 0)

-- the same where that count and those offsets stand behind it; else 0
unfoldable pub short_at : List ℕ → ℕ → ℕ → ℕ → ℕ
short_at s place n prev =
    pick (both (leb (place + n + 3) (length s)) (short_details s (place + n))) (instant_after s place n prev) 0

-- What short_at says of the codes, where it is not 0: a name, a wall offset and savings stand at a place, in a byte each
pub record ShortDetails (s : List ℕ) (place : ℕ) : Type 0 where
  pub name : Stands s (parse read_count (drop place s)) (at (get_or s place 0) (place + 1))
  pub wall : Stands s (parse read_sum (drop (place + 1) s)) (at (get_or s (place + 1) 0 * 1800000) (place + 2))
  pub savings : Stands s (parse read_sum (drop (place + 2) s)) (at (get_or s (place + 2) 0 * 1800000) (place + 3))

-- they stand behind the instant m, which is after the instant prev and takes n bytes
pub record Short (s : List ℕ) (place n prev m : ℕ) : Type 0 where
  pub previous : Finite prev
  pub rises : prev < m
  pub instant : Finite m
  pub moment : Stands s (parse (read_moment prev) (drop place s)) (at m (place + n))
  pub details : ShortDetails s (place + n)
