-- The field with a given ID among the fields of a file. To be believed up to `field_place`; the job is the code's way, tied to it by
-- `seek-fields` (proofs/SearchLaws.antt).
use Rattle.std.specs.declared.option.Option.{Option as Maybe}
use Rattle.std.specs.declared.option.Option.TheVariants.{None, Some}
use Rattle.std.specs.Prelude.{ℕ, false, List, [], ◌∷◌, drop, eqb}
use Rattle.std.proofs.Math.Option.{Option, none, some}
use Rattle.base.specs.Pick.{pick}
use Rattle.frames.specs.Frame.{Field}
use Rattle.frames.specs.Machine.{Out, found, refused, cut, ended, answer, keep, Job, state_at, from}
use Rattle.frames.specs.Fields.{fields}

-- the first with the ID i
unfoldable pub field_with : ℕ → List Field → Option Field
field_with i [] = none
field_with i (g ∷ gs) = pick (eqb g.id i) (some g) (field_with i gs)

abbrev pub place_in : Option Field → Maybe (ℕ × ℕ × ℕ)
place_in none = None
place_in (some g) = Some (g.place, g.start, g.past)

-- where it stands in the file f
abbrev pub field_place : ℕ → List ℕ → Maybe (ℕ × ℕ × ℕ)
field_place i f = place_in (field_with i (fields f))

-- a job that answers with that field
abbrev pub seeker : ℕ → Job (Unit {0}) Field
seeker i = record { last = 255; content = λ m g. pick (eqb g.id i) (answer g) (keep m) }

abbrev pub place_of : Out (Unit {0}) Field → Maybe (ℕ × ℕ × ℕ)
place_of (found g p) = Some (g.place, g.start, g.past)
place_of (refused n p) = None
place_of (cut p) = None
place_of (ended m p) = None

abbrev pub behind_version : ℕ → List ℕ → Maybe (ℕ × ℕ × ℕ)
behind_version i f = place_of (from (seeker i) (state_at 4 (drop 4 f) false 0 tt))
