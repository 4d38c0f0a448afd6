-- What a list of stretches is, with no walk over the instants. To be believed.
use Rattle.std.specs.Prelude.{◌≡◌, Bool, true, List, [], ◌∷◌, ◌⊎◌, ℕ, suc, ◌≤◌, ◌<◌}
use Rattle.stretches.specs.Stretches.{Stretch}

-- instants of the window from first to before last, one at least, at each of which the test holds
pub record Run (P : ℕ → Bool) (first last : ℕ) (x : Stretch) : Type 0 where
  pub from : first ≤ x.first
  pub some : x.first < x.end
  pub to : x.end ≤ last
  pub throughout : (t : ℕ) → x.first ≤ t → t < x.end → P t ≡ true

-- "and that can't be made longer": no other such run has all its instants
pub record Maximal (P : ℕ → Bool) (first last : ℕ) (x : Stretch) : Type 0 where
  pub run : Run P first last x
  pub longest : (y : Stretch) → Run P first last y → y.first ≤ x.first → x.end ≤ y.end → y ≡ x

-- x stands in a list
abbrev pub Among : Stretch → List Stretch → Type 0
Among x [] = ⊥
Among x (y ∷ ys) = (x ≡ y) ⊎ Among x ys

-- "in time order": each begins at a or later, and after the end of the one before it
abbrev pub InOrder : ℕ → List Stretch → Type 0
InOrder a [] = Unit {0}
InOrder a (x ∷ xs) = (a ≤ x.first) × (x.first < x.end) × InOrder (suc x.end) xs

-- THE LIST OF THE STRETCHES: in time order, each one maximal, and no maximal one left out. (`lists-one` in proofs/StretchLaws.antt: there is
-- one such list.)
pub record Lists (P : ℕ → Bool) (first last : ℕ) (xs : List Stretch) : Type 0 where
  pub in_order : InOrder first xs
  pub sound : (x : Stretch) → Among x xs → Maximal P first last x
  pub complete : (x : Stretch) → Maximal P first last x → Among x xs
