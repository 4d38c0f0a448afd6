-- A field's data with other numbers, and the numbers it mentions, one mention after the other. Assumes nothing.
use Rattle.base.specs.declared.Refusal.{Refusal}
use mathlib.Core.Path.{◌≡◌, ap, ◌∙◌}
use mathlib.Core.List.{List, [], ◌∷◌, ◌++◌, append_assoc}
use Prim.Native.Nat.{ℕ}
use Rattle.base.specs.Parsed.{got, bad}
use Rattle.counts.specs.Count.{write_count}
use Rattle.mentions.specs.declared.Stage.{Stage}
use Rattle.mentions.specs.Content.{Mention, Content, parse_mention, before, content_at, numbers_in, print_mentions, print}
use Rattle.mentions.proofs.ContentLaws.{content-next, content-end}

pub print-before : (ρ : ℕ → ℕ) (m : Mention) (c : Content) → print ρ (before m c) ≡ (m.prior ++ write_count (ρ m.number)) ++ print ρ c
unfolding print print_mentions
print-before ρ m c = append_assoc (m.prior ++ write_count (ρ m.number)) (print_mentions ρ c.mentions) c.rest

module _ (ρ : ℕ → ℕ) (σ : Stage) (s : List ℕ) where
  pub print-here : (m : Mention) (r : List ℕ) → parse_mention σ s ≡ got m r
      → print ρ (content_at σ s) ≡ (m.prior ++ write_count (ρ m.number)) ++ print ρ (content_at m.behind r)
  print-here m r e = ap (print ρ) (content-next σ s m r e) ∙ print-before ρ m (content_at m.behind r)

  pub print-none : (n : Refusal) → parse_mention σ s ≡ bad n → print ρ (content_at σ s) ≡ s
  unfolding print print_mentions
  print-none n e = ap (print ρ) (content-end σ s n e)

module _ (σ : Stage) (s : List ℕ) where
  pub numbers-here : (m : Mention) (r : List ℕ) → parse_mention σ s ≡ got m r
      → numbers_in (content_at σ s).mentions ≡ m.number ∷ numbers_in (content_at m.behind r).mentions
  unfolding numbers_in
  numbers-here m r e = ap (λ (c : Content). numbers_in c.mentions) (content-next σ s m r e)

  pub numbers-none : (n : Refusal) → parse_mention σ s ≡ bad n → numbers_in (content_at σ s).mentions ≡ []
  unfolding numbers_in
  numbers-none n e = ap (λ (c : Content). numbers_in c.mentions) (content-end σ s n e)
