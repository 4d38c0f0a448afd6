-- The premises of the laws about parts of a file are met: the file of 01 with a field 2 behind it. Assumes nothing.
use mathlib.Core.Path.{◌≡◌, refl}
use mathlib.Core.List.{List, [], ◌∷◌}
use mathlib.Core.Option.{some}
use Prim.Native.Nat.{ℕ, ◌≤◌}
use native.Mathlib.Omega.{arith}
use lib.Dec.{eqb}
use Rattle.base.specs.Pick.{pick}
use Rattle.counts.specs.Groups.{any_groups}
use Rattle.frames.specs.Frame.{order, zeros, version, sized, field, frame, Field}
use Rattle.frames.specs.Machine.{found, Job, answer, keep, walk}
use Rattle.frames.specs.Fields.{end_at, scan, listing, fields, pass, up_to, first_above}
use Rattle.frames.proofs.GrowthLaws.{Exactly, exactly}
use Rattle.frames.proofs.PartLaws.{Absent, absent, walk-answer}

-- 00 00 00 00, 00 05 01 03 55 54 43, 01 04 00 01 30 00, and 02 01 00
abbrev pub file : List ℕ
file = 0 ∷ 0 ∷ 0 ∷ 0 ∷ 0 ∷ 5 ∷ 1 ∷ 3 ∷ 85 ∷ 84 ∷ 67 ∷ 1 ∷ 4 ∷ 0 ∷ 1 ∷ 48 ∷ 0 ∷ 2 ∷ 1 ∷ 0 ∷ []

pub whole : (listing 255 file).ending ≡ end_at 20
unfolding listing scan frame version zeros field sized order any_groups
whole = refl

pub first-above : first_above 1 (fields file) ≡ some 17
unfolding first_above listing scan frame version zeros field sized order any_groups
first-above = refl

-- a job that keeps every field, and one that answers from the first zone
abbrev pub keeps : Job (Unit {0}) ⊥
keeps = record { last = 1; content = λ m g. keep m }

abbrev pub finds : Job (Unit {0}) ℕ
finds = record { last = 1; content = λ m g. pick (eqb g.id 1) (answer g.start) (keep m) }

-- the first k bytes wait up to 17, then are refused with 12 there
pub file-absent : (k : ℕ) → k ≤ 20 → Absent keeps tt file k
unfolding pass up_to listing scan frame version zeros field sized order any_groups
file-absent k l = absent keeps tt tt file 20 k whole refl l

abbrev pool : Field
pool = record { place = 4; id = 0; start = 6; past = 11; body = 1 ∷ 3 ∷ 85 ∷ 84 ∷ 67 ∷ [] }

abbrev zone : Field
zone = record { place = 11; id = 1; start = 13; past = 17; body = 0 ∷ 1 ∷ 48 ∷ 0 ∷ [] }

abbrev text : Field
text = record { place = 17; id = 2; start = 19; past = 20; body = 0 ∷ [] }

-- the first k bytes wait up to the end of the zone, 17, then answer
pub file-answers : walk finds tt file ≡ found 13 17
unfolding pass listing scan frame version zeros field sized order any_groups
file-answers = walk-answer finds tt file 20 whole (pool ∷ []) zone (text ∷ []) tt 13 refl (omega arith) refl refl

pub file-exactly : (k : ℕ) → k ≤ 20 → Exactly finds tt file 17 k
file-exactly k l = exactly finds tt file 13 17 k file-answers l
