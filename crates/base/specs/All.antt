-- What holds of every element of a list. To be believed.
use Rattle.std.specs.Prelude.{List, [], ◌∷◌}

pub data All {A : Type 0} (P : A → Type 0) : List A → Type 0 where
  all_none : All P []
  all-also : {x : A} {xs : List A} → P x → All P xs → All P (x ∷ xs)
