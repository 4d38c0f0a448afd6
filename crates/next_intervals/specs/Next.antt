-- What the code's result stands for. The code's way, tied to the interval by `NextAt` itself.
use Rattle.std.specs.Prelude.{ℕ, ◌+◌, ◌≤◌, ◌≡◌, List, length, drop}
use Rattle.places.specs.Placed.{at, Stands}
use Rattle.intervals.specs.Interval.{parse_interval}
use Rattle.intervals.specs.Short.{short_interval}

-- an interval of five bytes with the start m, behind prev, stands at a place, unless m is 0
pub record NextAt (s : List ℕ) (pool place prev m : ℕ) : Type 0 where
  pub room : (m ≡ 0 → ⊥) → place + 5 ≤ length s
  pub stands : (m ≡ 0 → ⊥) → Stands s (parse_interval pool prev (drop place s)) (at (short_interval s (place + 2) m) (place + 5))
