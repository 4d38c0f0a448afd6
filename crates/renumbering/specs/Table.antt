-- What the loops over a field rely on. The code's way.
use Rattle.std.specs.Prelude.{ℕ, ◌+◌, ◌≤◌, List, get_or}

-- n more uses of any number can be counted
pub record Fits (uses : List ℕ) (n : ℕ) : Type 0 where
  pub room : (k : ℕ) → get_or uses k 0 + n ≤ 4294967295
