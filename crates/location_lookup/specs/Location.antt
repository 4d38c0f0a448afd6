-- "Locations are asked by field, 6 or 7 only, and number from 0: after the check's faults, a number with no location gets 12 at that field's ID
-- byte, or at the bytes' end if there is no such field." To be believed.
use Rattle.base.specs.declared.Refusal.{Refusal}
use Rattle.std.specs.declared.option.Option.{Option}
use Rattle.base.specs.declared.Refusal.TheVariants.{NotFound}
use Rattle.std.specs.declared.option.Option.TheVariants.{None, Some}
use Rattle.base.specs.Coded.{Fault}
use Rattle.std.specs.Prelude.{ℕ, ◌+◌, ◌-◌, List, [], length, take, drop, leb, Err, Ok, Result}
use Rattle.base.specs.Pick.{pick, both}
use Rattle.signed.specs.Zigzag.{unzigzag_of}
use Rattle.pins.specs.Degrees.{pin_of}
use Rattle.pool.specs.Index.{room_of}
use Rattle.pool.specs.declared.Span.{Span}
use Rattle.string_search.specs.Search.{string_span}
use Rattle.locations.specs.Content.{id_of, parse_locations}
use Rattle.locations.specs.Find.{sought_of}
use Rattle.locations.specs.declared.LocationField.{LocationField}
use Rattle.locations.specs.declared.Spot.{Spot}
use Rattle.field_search.specs.Search.{field_place}
use Rattle.field_checks.specs.Check.{check_of}
use Rattle.location_lookup.specs.declared.Located.{Located}

-- the bytes of f from a to e; none where they are not all there
unfoldable pub lent_part : List ℕ → ℕ → ℕ → List ℕ
lent_part f a e = pick (both (leb e (length f)) (leb a e)) (take (e - a) (drop a f)) []

-- where the string with the number k lies in f, whose pool's data go from b to c
unfoldable pub text_in : List ℕ → ℕ → ℕ → ℕ → Span
text_in f b c k = record { at = b + (string_span (lent_part f b c) k).at; len = (string_span (lent_part f b c) k).len }

-- "hand out zone ID, comment and a view of one location that holds the lent bytes and a place", and the pin: "each coordinate is the seconds
-- divided by 3600, rounded once". The field's data go from a to e.
unfoldable pub located_at : List ℕ → ℕ → ℕ → ℕ → ℕ → Spot → Located
located_at f b c a e x = record {
  pin = pin_of (unzigzag_of x.latitude) (unzigzag_of x.longitude);
  zone = text_in f b c x.zone;
  comment = text_in f b c x.comment;
  start = a;
  end = e;
  at = x.at;
  left = x.left;
}

-- the ID byte of the field is at the place p
abbrev pub answer_in : List ℕ → ℕ → ℕ → ℕ → ℕ → ℕ → Result (Option Spot) Refusal → Result Located Fault
answer_in f b c p a e (Ok (Some x)) = Ok (located_at f b c a e x)
answer_in f b c p a e (Ok None) = Err (NotFound, p)
answer_in f b c p a e (Err k) = Err (k, p)

unfoldable pub in_field : List ℕ → ℕ → ℕ → ℕ → ℕ → ℕ → LocationField → ℕ → Result Located Fault
in_field f b c p a e field number =
    answer_in f b c p a e (sought_of (lent_part f a e) number (parse_locations field (room_of (lent_part f b c)) (lent_part f a e)))

-- by where field 0 and the asked field stand
abbrev pub by_fields : List ℕ → LocationField → ℕ → Option (ℕ × ℕ × ℕ) → Option (ℕ × ℕ × ℕ) → Result Located Fault
by_fields f field number None q = Err (NotFound, length f)
by_fields f field number (Some (z, b, c)) None = Err (NotFound, length f)
by_fields f field number (Some (z, b, c)) (Some (p, a, e)) = in_field f b c p a e field number

unfoldable pub in_file : List ℕ → LocationField → ℕ → Result Located Fault
in_file f field number = by_fields f field number (field_place 0 f) (field_place (id_of field) f)

abbrev pub by_check : List ℕ → LocationField → ℕ → Result (Unit {0}) Fault → Result Located Fault
by_check f field number (Err (n, p)) = Err (n, p)
by_check f field number (Ok tt) = in_file f field number

unfoldable pub location_of : List ℕ → LocationField → ℕ → Result Located Fault
location_of f field number = by_check f field number (check_of f)
