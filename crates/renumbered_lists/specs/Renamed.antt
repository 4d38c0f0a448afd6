-- The locations of a field behind a change of pool numbers: "All mentions are renumbered ..; all else is copied". To be believed.
use Rattle.std.specs.Prelude.{ℕ, ◌+◌, ◌*◌, Bool, true, false, List, [], ◌∷◌, map, length}
use Rattle.locations.specs.Content.{Location}
use Rattle.locations.specs.declared.Country.{Country}
use Rattle.locations.specs.declared.LocationField.{LocationField}
use Rattle.locations.specs.declared.LocationField.TheVariants.{Zone, Zone1970}
use Rattle.mentions.specs.Content.{content_at, print}
use Rattle.mentions.specs.declared.Stage.TheVariants.{Names}

-- the locations of field 7 have a number of countries
abbrev pub has_number : LocationField → Bool
has_number Zone = false
has_number Zone1970 = true

abbrev pub renamed_country : (ℕ → ℕ) → Country → Country
renamed_country ρ c = record { name = ρ c.name; code = ρ c.code }

-- name and code of each country, zone ID and comment are renumbered; the location stands before so many others in the data
abbrev pub renamed_location : (ℕ → ℕ) → LocationField → ℕ → Location → Location
renamed_location ρ field others l = record {
  latitude = l.latitude;
  longitude = l.longitude;
  countries = map (renamed_country ρ) l.countries;
  zone = ρ l.zone;
  comment = ρ l.comment;
  behind = print ρ (content_at (Names (2 * length l.countries + 2) others (has_number field)) l.behind);
}

unfoldable pub renamed : (ℕ → ℕ) → LocationField → List Location → List Location
renamed ρ field [] = []
renamed ρ field (l ∷ ls) = renamed_location ρ field (length ls) l ∷ renamed ρ field ls
