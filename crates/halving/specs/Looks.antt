-- Where halving stands, and how many entries are left. The code's way, tied to the rule by `same`.
use Rattle.std.specs.Prelude.{ℕ, ◌+◌, ◌-◌, ◌*◌, ◌/◌, ◌≤◌, ◌<◌, ◌≡◌, List, ℤ, length}
use Rattle.halving.specs.Halving.{halve, find_start}
use Rattle.halving.specs.declared.Bounds.{Bounds}

-- the n entries from low on are left, k were looked at
pub record Standing (xs : List ℤ) (z : ℤ) (low n k : ℕ) : Type 0 where
  pub some : 0 < n
  pub inside : low + n ≤ length xs
  pub few : k + n ≤ length xs
  pub same : find_start xs z ≡ halve n xs z low n k

-- how many entries are left
abbrev pub left_of : Bounds → ℕ
left_of b = b.high - b.low

-- the entries left are those between the bounds
abbrev pub StandsAt : List ℤ → ℤ → Bounds → Type 0
StandsAt xs z b = Standing xs z b.low (left_of b) b.probes

-- a look leaves one half of them
pub record Looks (xs : List ℤ) (z : ℤ) (b r : Bounds) : Type 0 where
  pub stands : StandsAt xs z r
  pub least : left_of b / 2 ≤ left_of r
  pub most : left_of r ≤ (left_of b + 1) / 2

-- n, which is halved at each look, is how many are left, or one fewer
pub record Near (n left : ℕ) : Type 0 where
  pub from : n ≤ left
  pub to : left ≤ n + 1

-- so many are left where a look is due if n, as it was before the first of these looks, is `least` or more
pub record Due (n least left : ℕ) : Type 0 where
  pub fewer : n < least → Near n left
  pub from : least ≤ n → least ≤ left
  pub to : left ≤ 2 * least
