-- What the next mention is, by the case of the result. Assumes nothing.
use Rattle.std.specs.declared.option.Option.{Option}
use Rattle.std.specs.declared.option.Option.TheVariants.{None, Some}
use mathlib.Core.Path.{◌≡◌, subst}
use mathlib.Core.List.{List}
use Prim.Native.Nat.{ℕ}
use Rattle.mentions.specs.declared.Stage.{Stage}
use Rattle.mentions.specs.View.{MentionAt, NoMention, NextTo, NextMention}

pub next-none : (s : List ℕ) (place : ℕ) (σ : Stage) (r : Option (Stage × ℕ × ℕ × ℕ)) → NextMention s place σ r → r ≡ None → NoMention s place σ
next-none s place σ r n e = subst (NextTo s place σ) e n.means

pub next-some : (s : List ℕ) (place : ℕ) (σ : Stage) (r : Option (Stage × ℕ × ℕ × ℕ)) (τ : Stage) (v p e : ℕ) → NextMention s place σ r → r ≡ Some (τ, v, p, e) → MentionAt s place σ τ v p e
next-some s place σ r τ v p e n h = subst (NextTo s place σ) h n.means
