-- The content of fields 6 and 7: locations of zones, read left to right, "each judged as read". Seconds are signed counts as the numbers that
-- stand in the file (signed's specs/Zigzag.antt); texts are pool numbers. To be believed.
use Rattle.base.specs.declared.Refusal.TheVariants.{BadLocation}
use Rattle.std.specs.Prelude.{ℕ, suc, Bool, List, leb, ℤ, pos, negsuc}
use Rattle.base.specs.Pick.{pick}
use Rattle.base.specs.Parsed.{Parsed, got, bad, bind, parse, ended, many}
use Rattle.signed.specs.Zigzag.{unzigzag_of}
use Rattle.counts.specs.Count.{read_count}
use Rattle.places.specs.Name.{read_zigzag, parse_name}
use Rattle.locations.specs.declared.Country.{Country}
use Rattle.locations.specs.declared.LocationField.{LocationField}
use Rattle.locations.specs.declared.LocationField.TheVariants.{Zone, Zone1970}

-- "signed counts of seconds north and east, then the texts": in file order, the zone ID before the comment. `behind` is the data from the
-- first country on, which tells where a view of the countries stands.
pub record Location : Type 0 where
  pub latitude : ℕ
  pub longitude : ℕ
  pub countries : List Country
  pub zone : ℕ
  pub comment : ℕ
  pub behind : List ℕ

-- the ID of a field of locations: "6 or 7 only"
abbrev pub id_of : LocationField → ℕ
id_of Zone = 6
id_of Zone1970 = 7

-- at most so many seconds either way, both ends in
unfoldable pub within : ℕ → ℤ → Bool
within most (pos n) = leb n most
within most (negsuc n) = leb (suc n) most

-- "Latitude is within 324,000 and longitude within 648,000, else 20"
unfoldable pub judge_seconds : ℕ → ℕ → List ℕ → Parsed ℕ
judge_seconds most v s = pick (within most (unzigzag_of v)) (got v s) (bad BadLocation)

unfoldable pub parse_seconds : ℕ → List ℕ → Parsed ℕ
parse_seconds most s = bind (parse read_zigzag s) (judge_seconds most)

-- "a negative number of countries is 20 too"
unfoldable pub not_negative : ℤ → List ℕ → Parsed ℕ
not_negative (pos n) s = got n s
not_negative (negsuc n) s = bad BadLocation

unfoldable pub judge_number : ℕ → List ℕ → Parsed ℕ
judge_number v s = not_negative (unzigzag_of v) s

-- a location of field 6 has one country and no number of them
unfoldable pub parse_number : LocationField → List ℕ → Parsed ℕ
parse_number Zone s = got 1 s
parse_number Zone1970 s = bind (parse read_zigzag s) judge_number

-- "each name and code"; no item in a row depends on those before it
unfoldable pub parse_country : ℕ → Unit {0} → List ℕ → Parsed Country
parse_country pool σ s =
    bind (parse_name pool s) (λ name r. bind (parse_name pool r) (λ code r. got (record { name = name; code = code }) r))

abbrev pub no_state : {A : Type 0} → A → Unit {0}
no_state a = tt

-- n countries: a large n is no fault by itself
unfoldable pub parse_countries : ℕ → ℕ → List ℕ → Parsed (List Country)
parse_countries pool n s = many (parse_country pool) no_state n tt s

-- the countries, zone ID, comment
unfoldable pub parse_texts : ℕ → ℕ → ℕ → ℕ → List ℕ → Parsed Location
parse_texts pool latitude longitude n s =
    bind (parse_countries pool n s) (λ countries r.
    bind (parse_name pool r) (λ zone r.
    bind (parse_name pool r) (λ comment r.
    got (record { latitude = latitude; longitude = longitude; countries = countries; zone = zone; comment = comment; behind = s }) r)))

-- latitude, longitude, in field 7 the number of countries, and the texts
unfoldable pub parse_location : LocationField → ℕ → Unit {0} → List ℕ → Parsed Location
parse_location field pool σ s =
    bind (parse_seconds 324000 s) (λ latitude r.
    bind (parse_seconds 648000 r) (λ longitude r.
    bind (parse_number field r) (λ n r. parse_texts pool latitude longitude n r)))

-- n locations, and "9 for leftovers last"
unfoldable pub all_locations : LocationField → ℕ → ℕ → List ℕ → Parsed (List Location)
all_locations field pool n s = bind (many (parse_location field pool) no_state n tt s) ended

-- the data of a field; pool is the pool's count
unfoldable pub parse_locations : LocationField → ℕ → List ℕ → Parsed (List Location)
parse_locations field pool s = bind (parse read_count s) (all_locations field pool)
