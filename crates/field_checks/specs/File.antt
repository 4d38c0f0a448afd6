-- A well-formed file by its bytes, with no walk and no order of faults: "A file is well formed when none of 2 to 11 or 13 applies to it as a
-- whole", nor 19 or 20. To be believed: file-well-formed and well-formed-file (proofs/FileLaws.antt) say that these are the files to which the check gives 0.
use Rattle.std.specs.Prelude.{ℕ, ◌≡◌, List, [], ◌∷◌, ◌++◌, length}
use Rattle.base.specs.All.{All}
use Rattle.base.specs.Parsed.{got}
use Rattle.texts.specs.Text.{parse_text}
use Rattle.pool.specs.Pool.{parse_pool}
use Rattle.zones.specs.Content.{Zone}
use Rattle.zones.specs.Parse.{parse_zone}
use Rattle.aliases.specs.Dictionary.{Dictionary}
use Rattle.aliases.specs.Pairs.{PairsIn}
use Rattle.locations.specs.Content.{Location, id_of, parse_locations}
use Rattle.locations.specs.declared.LocationField.{LocationField}
use Rattle.frames.specs.Frame.{Field}
use Rattle.frames.specs.Covers.{Framed}
use Rattle.field_checks.specs.Check.{HasId}

-- the data d of a field 1, all of them, are a zone, with ts for a pool: none of 4 and 7 to 11
pub record ZoneData (ts : List (List ℕ)) (d : List ℕ) : Type 0 where
  pub zone : Zone
  pub parsed : parse_zone (length ts) d ≡ got zone []

abbrev pub AsZone : List (List ℕ) → Field → Type 0
AsZone ts g = g.id ≡ 1 → ZoneData ts g.body

-- the data d of a field 2, all of them, are a text: none of 4 and 7 to 9
pub record TextData (d : List ℕ) : Type 0 where
  pub text : List ℕ
  pub parsed : parse_text d ≡ got text []

abbrev pub AsText : Field → Type 0
AsText g = g.id ≡ 2 → TextData g.body

-- the data d of a field 3, all of them, are pairs of pool strings, no two keys equal: none of 7 to 9 and 19
pub record AliasData (ts : List (List ℕ)) (d : List ℕ) : Type 0 where
  pub entries : Dictionary
  pub pairs : PairsIn ts d entries

abbrev pub AsAliases : List (List ℕ) → Field → Type 0
AsAliases ts g = g.id ≡ 3 → AliasData ts g.body

-- the data d of field 6 or 7, all of them, are locations, with ts for a pool: none of 7 to 9 and 20
pub record LocationData (field : LocationField) (ts : List (List ℕ)) (d : List ℕ) : Type 0 where
  pub locations : List Location
  pub parsed : parse_locations field (length ts) d ≡ got locations []

abbrev pub AsLocations : List (List ℕ) → Field → Type 0
AsLocations ts g = (field : LocationField) → g.id ≡ id_of field → LocationData field ts g.body

pub record IsFile (f : List ℕ) : Type 0 where
  -- version and fields to the bytes' end
  pub first : Field
  pub others : List Field
  pub framed : Framed f first others
  -- their contents; fields 4 "and up are stepped over by their size", 6 and 7 excepted
  pub strings : List (List ℕ)
  pub pool : parse_pool first.body ≡ got strings []
  pub zones : All (AsZone strings) others
  pub texts : All AsText others
  pub aliases : All (AsAliases strings) others
  pub locations : All (AsLocations strings) others
  -- no "second zone with the same ID bytes": not 13
  pub apart : (gs : List Field) (g : Field) (hs : List Field) (h : Field) (is : List Field) (x : List ℕ) → others ≡ gs ++ g ∷ (hs ++ h ∷ is)
      → HasId strings x g → HasId strings x h → ⊥
