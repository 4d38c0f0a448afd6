-- An interval's start at a place. The code's way: what `start_preferred` needs to be told of it.
use Rattle.std.specs.Prelude.{ℕ, ◌≤◌, ◌≡◌, List, length, drop}
use Rattle.base.specs.Parsed.{got, parse}
use Rattle.transitions.specs.Transition.{read_moment}

-- the moment m after prev stands at a place
pub record StartAt (s : List ℕ) (place prev m : ℕ) : Type 0 where
  pub inside : place ≤ length s
  pub rest : List ℕ
  pub means : parse (read_moment prev) (drop place s) ≡ got m rest
