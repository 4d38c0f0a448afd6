-- An alias dictionary: pairs of byte strings, in file order. Nothing here knows of pool numbers, so it is the content of field 3 and of any
-- other dictionary of strings. To be believed.
use Rattle.std.specs.Prelude.{ℕ, ◌≡◌, List, [], ◌∷◌}
use Rattle.std.proofs.Math.Option.{Option, none, some}
use Rattle.base.specs.All.{All}
use Rattle.base.specs.Pick.{pick}
use Rattle.base.specs.Equal.{equal}

-- "pairs of pool strings: alias, target"; the alias is the key
pub record Entry : Type 0 where
  pub key : List ℕ
  pub target : List ℕ

abbrev pub entry : List ℕ → List ℕ → Entry
entry k t = record { key = k; target = t }

abbrev pub Dictionary : Type 0
Dictionary = List Entry

unfoldable pub keys : Dictionary → List (List ℕ)
keys [] = []
keys (e ∷ es) = e.key ∷ keys es

-- the target of the key x, if x is one
unfoldable pub target_of : Dictionary → List ℕ → Option (List ℕ)
target_of [] x = none
target_of (e ∷ es) x = pick (equal e.key x) (some e.target) (target_of es x)

-- no "two equal keys": no key is one of a later entry
abbrev pub Apart : Dictionary → Type 0
Apart [] = Unit {0}
Apart (e ∷ es) = All (λ b. e.key ≡ b.key → ⊥) es × Apart es
