-- What holds of the locations of a field that the check takes. To be believed; `locations-sound` (proofs/SoundLaws.antt) shows it of what is read.
use Rattle.std.specs.Prelude.{◌≡◌, true}
use Rattle.signed.specs.Zigzag.{unzigzag_of}
use Rattle.locations.specs.Content.{Location, within}

-- "Latitude is within 324,000 and longitude within 648,000"
pub record Ranged (l : Location) : Type 0 where
  pub latitude-ok : within 324000 (unzigzag_of l.latitude) ≡ true
  pub longitude-ok : within 648000 (unzigzag_of l.longitude) ≡ true
