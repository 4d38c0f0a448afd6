-- What a walk over the fields of a well-formed file reads. The code's way, tied to the fields by `turned` (proofs/FieldLaws.antt).
use Rattle.std.specs.Prelude.{ℕ, ◌-◌, ◌≡◌, List, take, drop}
use Rattle.frames.specs.Frame.{Field}
use Rattle.frames.specs.Fields.{FieldOf}
use Rattle.sizes.specs.declared.Extent.{Extent}

-- r is the field of f at a place, where there is one
pub record IsField (f : List ℕ) (at : ℕ) (r : Extent) : Type 0 where
  pub means : (g : Field) → FieldOf f g → g.place ≡ at → (r.id ≡ g.id) × (r.start ≡ g.start) × (r.end ≡ g.past)

-- its data
abbrev pub part_of : List ℕ → Extent → List ℕ
part_of f r = take (r.end - r.start) (drop r.start f)
