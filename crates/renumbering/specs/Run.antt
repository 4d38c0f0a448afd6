-- What a run of mentions with new numbers relies on and leaves. The code's way.
use Rattle.std.specs.Prelude.{ℕ, ◌+◌, ◌*◌, ◌≤◌, ◌≡◌, List, ◌++◌, length, get_or, drop}
use Rattle.pieces.specs.View.{Put}
use Rattle.mentions.specs.declared.Stage.{Stage}
use Rattle.mentions.specs.Content.{content_at, print}

-- every number is one that a count can carry
pub record Small (table : List ℕ) : Type 0 where
  pub carried : (k : ℕ) → get_or table k 0 ≤ 2147483647

-- the walk over s from the place a on stands at a place: of what is to be written, `done` is for what stands before it
pub record Going (ρ : ℕ → ℕ) (s whole : List ℕ) (a place : ℕ) (σ : Stage) (done : List ℕ) : Type 0 where
  pub onward : a ≤ place
  pub within : place ≤ length s
  pub all : whole ≡ done ++ print ρ (content_at σ (drop place s))
  pub few : length done + 5 * a ≤ 5 * place

-- from the place a and the stage σ on: up to the place b with the stage τ the renumbered data have n bytes
pub record MeasuredRun (ρ : ℕ → ℕ) (s : List ℕ) (a : ℕ) (σ : Stage) (b : ℕ) (τ : Stage) (n : ℕ) : Type 0 where
  pub done : List ℕ
  pub going : Going ρ s (print ρ (content_at σ (drop a s))) a b τ done
  pub size : n ≡ length done

-- and these are written to the front of the output o, which is e then
pub record WrittenRun (ρ : ℕ → ℕ) (s : List ℕ) (a : ℕ) (σ : Stage) (o : List ℕ) (b : ℕ) (τ : Stage) (n : ℕ) (e : List ℕ) : Type 0 where
  pub done : List ℕ
  pub going : Going ρ s (print ρ (content_at σ (drop a s))) a b τ done
  pub put : Put done o n e
