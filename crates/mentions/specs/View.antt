-- What the code's results stand for. The code's way, tied to the definitions by `NextMention` itself.
use Rattle.base.specs.declared.Refusal.{Refusal}
use Rattle.std.specs.declared.option.Option.{Option}
use Rattle.std.specs.declared.option.Option.TheVariants.{None, Some}
use Rattle.std.specs.Prelude.{ℕ, ◌-◌, ◌≤◌, ◌<◌, ◌≡◌, List, length, take, drop, Err, Ok, Result}
use Rattle.base.specs.Parsed.{got, bad}
use Rattle.places.specs.Placed.{Placed, at, no}
use Rattle.mentions.specs.declared.Stage.{Stage}
use Rattle.mentions.specs.Content.{parse_mention}

abbrev pub of_skipped : Result (Stage × ℕ) Refusal → Placed Stage
of_skipped (Ok (σ, e)) = at σ e
of_skipped (Err k) = no k

-- the mention of the number v at the place p of s, behind a place, and the place e behind it
pub record MentionAt (s : List ℕ) (place : ℕ) (σ τ : Stage) (v p e : ℕ) : Type 0 where
  pub read : parse_mention σ (drop place s) ≡ got (record { prior = take (p - place) (drop place s); number = v; behind = τ }) (drop e s)
  pub first : place ≤ p
  pub rises : p < e
  pub last : e ≤ length s

pub record NoMention (s : List ℕ) (place : ℕ) (σ : Stage) : Type 0 where
  pub fault : Refusal
  pub none : parse_mention σ (drop place s) ≡ bad fault

abbrev pub NextTo : List ℕ → ℕ → Stage → Option (Stage × ℕ × ℕ × ℕ) → Type 0
NextTo s place σ (Some (τ, v, p, e)) = MentionAt s place σ τ v p e
NextTo s place σ None = NoMention s place σ

pub record NextMention (s : List ℕ) (place : ℕ) (σ : Stage) (r : Option (Stage × ℕ × ℕ × ℕ)) : Type 0 where
  pub means : NextTo s place σ r
