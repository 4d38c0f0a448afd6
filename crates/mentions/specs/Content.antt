-- A field's data as mentions of pool strings and the bytes around them, and the same data with other numbers. To be believed.
use Rattle.std.specs.Prelude.{ℕ, zero, suc, List, [], ◌∷◌, ◌++◌, length}
use Rattle.base.specs.Parsed.{Parsed, got, bad, bind, parse}
use Rattle.counts.specs.Count.{read_count, write_count}
use Rattle.pieces.specs.Content.{bytes_up_to}
use Rattle.mentions.specs.declared.Stage.{Stage}
use Rattle.mentions.specs.Walk.{ahead_of, first_stage}

-- a mention: the bytes before it, from the mention before it on; its pool number; and the stage behind it
pub record Mention : Type 0 where
  pub prior : List ℕ
  pub number : ℕ
  pub behind : Stage

-- the mentions of a field's data, and the bytes behind the last
pub record Content : Type 0 where
  pub mentions : List Mention
  pub rest : List ℕ

unfoldable pub parse_mention : Stage → List ℕ → Parsed Mention
parse_mention σ s =
    bind (ahead_of σ s) (λ τ r. bind (parse read_count r) (λ k q. got (record { prior = bytes_up_to s r; number = k; behind = τ }) q))

-- one mention more, in front
abbrev pub before : Mention → Content → Content
before m c = record { mentions = m ∷ c.mentions; rest = c.rest }

abbrev pub onward : List ℕ → Parsed Mention → (Stage → List ℕ → Content) → Content
onward s (bad k) go = record { mentions = []; rest = s }
onward s (got m r) go = before m (go m.behind r)

-- at most k mentions; each takes a byte at least, so the bytes bound them
unfoldable pub content_from : ℕ → Stage → List ℕ → Content
content_from zero σ s = record { mentions = []; rest = s }
content_from (suc k) σ s = onward s (parse_mention σ s) (content_from k)

abbrev pub content_at : Stage → List ℕ → Content
content_at σ s = content_from (suc (length s)) σ s

-- the data d of a field with the ID i
abbrev pub content_of : ℕ → List ℕ → Content
content_of i d = content_at (first_stage i) d

unfoldable pub numbers_in : List Mention → List ℕ
numbers_in [] = []
numbers_in (m ∷ ms) = m.number ∷ numbers_in ms

-- the pool numbers that a field mentions, in file order: "Each place in the file is one mention"
abbrev pub numbers_of : ℕ → List ℕ → List ℕ
numbers_of i d = numbers_in (content_of i d).mentions

-- "All mentions are renumbered ..; all else is copied": each number by the function ρ
unfoldable pub print_mentions : (ℕ → ℕ) → List Mention → List ℕ
print_mentions ρ [] = []
print_mentions ρ (m ∷ ms) = (m.prior ++ write_count (ρ m.number)) ++ print_mentions ρ ms

unfoldable pub print : (ℕ → ℕ) → Content → List ℕ
print ρ c = print_mentions ρ c.mentions ++ c.rest

-- the data d of a field with the ID i, renumbered
abbrev pub renumbered : (ℕ → ℕ) → ℕ → List ℕ → List ℕ
renumbered ρ i d = print ρ (content_of i d)
