-- A LOCATION GIVES 0, 2 TO 13, 19 OR 20, whatever the bytes, the field and the number. Assumes nothing.
use Rattle.locations.specs.declared.Spot.{Spot}
use Rattle.base.specs.Refusals.{refusal_number}
use Rattle.base.specs.declared.Refusal.{Refusal}
use Rattle.std.specs.declared.option.Option.{Option}
use Rattle.std.specs.declared.option.Option.TheVariants.{None, Some}
use Rattle.base.specs.Coded.{Fault}
use Rattle.std.specs.Prelude.{Err, Ok, Result}
use mathlib.Core.Path.{refl}
use mathlib.Core.List.{List, [], ◌∷◌}
use Prim.Native.Nat.{ℕ, zero, suc}
use native.Mathlib.Omega.{arith}
use Rattle.base.specs.Bytes.{Bytes}
use Rattle.base.specs.Parsed.{Parsed, got, bad}
use Rattle.pool.specs.Index.{room_of}
use Rattle.locations.specs.Content.{Location, id_of, parse_locations}
use Rattle.locations.specs.Find.{numbered, sought_of}
use Rattle.locations.specs.declared.LocationField.{LocationField}
use Rattle.field_search.specs.Search.{field_place}
use Rattle.field_checks.specs.Check.{check_of}
use Rattle.field_checks.specs.Numbers.{given_by_verdict}
use Rattle.location_lookup.specs.Location.{lent_part, answer_in, in_field, by_fields, in_file, by_check, location_of}
use Rattle.location_lookup.specs.Numbers.{given_by_location}
use Rattle.demands.specs.Numbers.{OfCheck, check-fault, location-fault, OfLocations, misread, out_of_range, OfLocation, location-check, no-location, InTable}
use Rattle.demands.proofs.LocationNumbers.{Located, location-numbers}
use Rattle.demands.proofs.Numbers.{check-numbers}

of-locations : (n : ℕ) → OfLocations n → OfLocation n
of-locations n (misread l h) = location-check (check-fault (record { low = omega arith; high = omega arith }))
of-locations n (out_of_range e) = location-check (location-fault e)

-- the numbers that asking a field gives
abbrev Asked : Result (Option Spot) Refusal → Type 0
Asked (Ok (Some x)) = Unit {0}
Asked (Ok None) = Unit {0}
Asked (Err k) = OfLocations (refusal_number k)

numbered-asked : (s : List ℕ) (n : ℕ) (ls : List Location) → Asked (numbered s n ls)
unfolding numbered
numbered-asked s n [] = tt
numbered-asked s zero (l ∷ ls) = tt
numbered-asked s (suc n) (l ∷ ls) = numbered-asked s n ls

asked : (s : List ℕ) (n : ℕ) (p : Parsed (List Location)) → Located p → Asked (sought_of s n p)
unfolding sought_of
asked s n (got ls r) h = numbered-asked s n ls
asked s n (bad k) h = h

field-table : (f : List ℕ) (b c p a e : ℕ) (field : LocationField) (number : ℕ) → InTable OfLocation (given_by_location (in_field f b c p a e field number))
unfolding in_field
field-table f b c p a e field number =
    go (sought_of (lent_part f a e) number (parse_locations field (room_of (lent_part f b c)) (lent_part f a e)))
    (asked (lent_part f a e) number (parse_locations field (room_of (lent_part f b c)) (lent_part f a e)) (location-numbers field (room_of (lent_part f b c)) (lent_part f a e)))
  where
    go : (x : Result (Option Spot) Refusal) → Asked x → InTable OfLocation (given_by_location (answer_in f b c p a e x))
    go (Ok (Some x)) h = tt
    go (Ok None) h = no-location refl
    go (Err k) h = of-locations (refusal_number k) h

file-table : (f : List ℕ) (field : LocationField) (number : ℕ) → InTable OfLocation (given_by_location (in_file f field number))
unfolding in_file
file-table f field number = go (field_place 0 f) (field_place (id_of field) f)
  where
    go : (x y : Option (ℕ × ℕ × ℕ)) → InTable OfLocation (given_by_location (by_fields f field number x y))
    go None y = no-location refl
    go (Some (z, b, c)) None = no-location refl
    go (Some (z, b, c)) (Some (p, a, e)) = field-table f b c p a e field number

pub location-table : (f : List ℕ) (field : LocationField) (number : ℕ) → Bytes f → InTable OfLocation (given_by_location (location_of f field number))
unfolding location_of
location-table f field number b = go (check_of f) (check-numbers f b)
  where
    go : (v : Result (Unit {0}) Fault) → InTable OfCheck (given_by_verdict v) → InTable OfLocation (given_by_location (by_check f field number v))
    go (Err (n, p)) h = location-check h
    go (Ok tt) h = file-table f field number
