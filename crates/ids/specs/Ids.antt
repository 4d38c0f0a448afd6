-- "a second zone with the same ID bytes": whether a string is among those seen, as a test. among-true and among_in in proofs/IdLaws.antt
-- say that it is membership. To be believed.
use Rattle.std.specs.Prelude.{ℕ, List, [], ◌∷◌, Bool, true, false}
use Rattle.base.specs.Pick.{pick}
use Rattle.base.specs.Equal.{equal}

unfoldable pub among : List ℕ → List (List ℕ) → Bool
among x [] = false
among x (y ∷ ys) = pick (equal y x) true (among x ys)

-- x is one of ys
pub data In (x : List ℕ) : List (List ℕ) → Type 0 where
  here : (ys : List (List ℕ)) → In x (x ∷ ys)
  there : (y : List ℕ) (ys : List (List ℕ)) → In x ys → In x (y ∷ ys)
