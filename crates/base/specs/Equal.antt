-- Equality of byte strings, as a test: equal-true and equal-refl in proofs/EqualLaws.antt say that it is equality.
-- To be believed.
use Rattle.std.specs.Prelude.{ℕ, List, [], ◌∷◌, Bool, true, false, eqb}
use Rattle.base.specs.Pick.{both}

unfoldable pub equal : List ℕ → List ℕ → Bool
equal [] [] = true
equal [] (b ∷ t) = false
equal (a ∷ s) [] = false
equal (a ∷ s) (b ∷ t) = both (eqb a b) (equal s t)
