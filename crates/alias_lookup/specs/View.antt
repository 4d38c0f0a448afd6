-- What the code's results and the lent flags stand for. The code's way, tied to the lookup by `same_way` (proofs/LookupLaws.antt).
use Rattle.std.specs.declared.option.Option.{Option as Maybe}
use Rattle.std.specs.declared.option.Option.TheVariants.{None, Some}
use Rattle.std.specs.Prelude.{ℕ, suc, ◌<◌, ◌≤◌, ◌≡◌, Bool, true, false, List, [], ◌∷◌, length, get_or, drop, eqb}
use Rattle.std.proofs.Math.Option.{Option, none, some}
use Rattle.base.specs.Pick.{pick}
use Rattle.base.specs.Equal.{equal}
use Rattle.base.specs.Parsed.{got}
use Rattle.aliases.specs.Dictionary.{Dictionary}
use Rattle.aliases.specs.Field.{parse_entries, parse_aliases, entries_of}
use Rattle.alias_lookup.specs.Lookup.{Named, here, unknown, deep, lookup, by_test}
use Rattle.alias_lookup.specs.declared.Target.{Target}
use Rattle.alias_lookup.specs.declared.Target.TheVariants.{Zone, Unknown, Deep}

-- one of the strings ts, which are those from number j on, has a flag in fl and is x
unfoldable pub flagged_from : ℕ → List (List ℕ) → List ℕ → List ℕ → Bool
flagged_from j [] fl x = false
flagged_from j (y ∷ ts) fl x =
    pick (eqb (get_or fl j 0) 0) (flagged_from (suc j) ts fl x) (pick (equal y x) true (flagged_from (suc j) ts fl x))

-- x is a string with a flag: the ID of a zone
abbrev pub flagged : List (List ℕ) → List ℕ → List ℕ → Bool
flagged ts fl x = flagged_from 0 ts fl x

-- d is the data of a field 3 that the check found good
pub record Sound (ts : List (List ℕ)) (d : List ℕ) : Type 0 where
  pub is : parse_aliases ts d ≡ got (entries_of ts d) []

-- n entries of d stand from a place on, and are all of it
pub record Listed (ts : List (List ℕ)) (d : List ℕ) (from n : ℕ) : Type 0 where
  pub place : from ≤ length d
  pub rest : parse_entries ts n [] (drop from d) ≡ got (entries_of ts d) []

-- a string by its pool number
abbrev pub string_at : List (List ℕ) → Maybe ℕ → Option (List ℕ)
string_at ts (Some k) = some (get_or ts k [])
string_at ts None = none

abbrev pub PlaceIn : List (List ℕ) → Maybe ℕ → Type 0
PlaceIn ts (Some k) = k < length ts
PlaceIn ts None = Unit {0}

-- r is the string o
pub record Points (ts : List (List ℕ)) (o : Option (List ℕ)) (r : Maybe ℕ) : Type 0 where
  pub means : string_at ts r ≡ o
  pub within : PlaceIn ts r

abbrev pub named_at : List (List ℕ) → Target → Named (List ℕ)
named_at ts (Zone k) = here (get_or ts k [])
named_at ts Unknown = unknown
named_at ts Deep = deep

abbrev pub TargetIn : List (List ℕ) → Target → Type 0
TargetIn ts (Zone k) = k < length ts
TargetIn ts Unknown = Unit {0}
TargetIn ts Deep = Unit {0}

-- r is what x leads to in n steps at most, in the dictionary es; zones are the strings with a flag in fl
pub record Resolves (ts : List (List ℕ)) (fl : List ℕ) (es : Dictionary) (n : ℕ) (x : List ℕ) (r : Target) : Type 0 where
  pub means : named_at ts r ≡ lookup (by_test (flagged ts fl)) es n x
  pub within : TargetIn ts r
