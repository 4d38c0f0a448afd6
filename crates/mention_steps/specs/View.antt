-- What a mention at a place is to the stages before it. The code's way, tied to the definitions by `NextMention`.
use Rattle.std.specs.declared.option.Option.{Option}
use Rattle.std.specs.Prelude.{ℕ, ◌≤◌, List, length, drop}
use Rattle.places.specs.Placed.{at, Stands}
use Rattle.mentions.specs.declared.Stage.{Stage}
use Rattle.mentions.specs.Walk.{ahead_of}
use Rattle.mentions.specs.View.{NextMention}

-- r is the mention at the place p with the stage τ behind it: the next one from every stage from which p and τ are ahead
pub record NamedAt (s : List ℕ) (p : ℕ) (τ : Stage) (r : Option (Stage × ℕ × ℕ × ℕ)) : Type 0 where
  pub next : (place : ℕ) (σ : Stage) → place ≤ length s → Stands s (ahead_of σ (drop place s)) (at τ p) → NextMention s place σ r
