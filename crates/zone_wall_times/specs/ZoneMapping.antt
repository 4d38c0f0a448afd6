-- Ask 3 of a zone found once. To be believed.
use Rattle.base.specs.Coded.{Fault}
use Rattle.std.specs.Prelude.{List, ℕ, ℤ, Result}
use Rattle.zones.specs.declared.Edition.TheVariants.{Two}
use Rattle.found_zones.specs.FoundZone.{ask_zone}
use Rattle.found_zones.specs.declared.FoundZone.{FoundZone}
use Rattle.wall_times.specs.WallTime.{MapsBy}

-- as a whole file's, by the questions on the found zone, whatever v and the bytes f are. On the bytes that v was found in these are the file's
-- questions, so r is the file's mapping (found-maps in proofs/ZoneMapLaws.antt).
abbrev pub MapsZone : List ℕ → FoundZone → ℤ → Result (ℕ × ℤ × ℤ) Fault → Type 0
MapsZone f v local r = MapsBy (λ z. ask_zone f v z Two) local r
