-- What counting a run of mentions relies on and leaves. The code's way.
use Rattle.std.specs.Prelude.{ℕ, ◌+◌, ◌≤◌, ◌≡◌, List, length, get_or, drop}
use Rattle.use_order.specs.Order.{mention_all}
use Rattle.mentions.specs.declared.Stage.{Stage}
use Rattle.mentions.specs.Content.{content_at, numbers_in}

-- n more uses of any number can be counted
pub record Room (uses : List ℕ) (n : ℕ) : Type 0 where
  pub room : (k : ℕ) → get_or uses k 0 + n ≤ 4294967295

-- the mentions of s from the place b and the stage τ on, counted on the uses w, make what those from a and σ on make of u
pub record Counted (s : List ℕ) (a : ℕ) (σ : Stage) (u : List ℕ) (b : ℕ) (τ : Stage) (w : List ℕ) : Type 0 where
  pub onward : a ≤ b
  pub within : b ≤ length s
  pub all : length w ≡ length u
  pub most : (k : ℕ) → get_or w k 0 + a ≤ get_or u k 0 + b
  pub same : mention_all (numbers_in (content_at τ (drop b s)).mentions) w ≡ mention_all (numbers_in (content_at σ (drop a s)).mentions) u
