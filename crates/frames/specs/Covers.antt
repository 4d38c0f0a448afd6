-- A file as version and fields, by its bytes alone: no walk, no job, no order of faults. To be believed: framed-listing and listing-framed
-- (proofs/CoverLaws.antt) tie it to the fields that a walk lists.
use Rattle.std.specs.Prelude.{ℕ, ◌≤◌, ◌<◌, ◌≡◌, List, [], ◌∷◌, ◌⊎◌, length, take}
use Rattle.frames.specs.Frame.{Field}
use Rattle.frames.specs.Fields.{FieldOf}

-- the fields gs stand in f one behind the other, from the place at to its end
abbrev pub Covers : List ℕ → ℕ → List Field → Type 0
Covers f at [] = at ≡ length f
Covers f at (g ∷ gs) = (g.place ≡ at) × FieldOf f g × Covers f g.past gs

-- the ID i may stand behind prev: it is larger, or the same one of those that may stand again. Not "field ID lower than the one before, or 0
-- or 2 to 7 a second time"
pub data Next (prev i : ℕ) : Type 0 where
  rises : prev < i → Next prev i
  again : prev ≡ i → (i ≡ 1) ⊎ (8 ≤ i) → Next prev i

abbrev pub InOrder : ℕ → List Field → Type 0
InOrder prev [] = Unit {0}
InOrder prev (g ∷ gs) = Next prev g.id × InOrder g.id gs

-- "Version: four zero bytes. Field: ID byte, size as a count, data": f is the version, a field of ID 0 and the others behind it, their IDs in
-- order, up to its end. None of 2, 3, 5, 6, nor 4 and 7 of a field's size
pub record Framed (f : List ℕ) (first : Field) (others : List Field) : Type 0 where
  pub version : take 4 f ≡ 0 ∷ 0 ∷ 0 ∷ 0 ∷ []
  pub whole : Covers f 4 (first ∷ others)
  pub is-first : first.id ≡ 0
  pub ordered : InOrder 0 others
