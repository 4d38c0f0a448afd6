-- A location by any field's number and any number. To be believed.
use Rattle.location_lookup.specs.declared.Located.{Located}
use Rattle.base.specs.declared.Refusal.TheVariants.{NotFound}
use Rattle.base.specs.Coded.{Fault}
use Rattle.std.specs.Prelude.{ℕ, List, eqb, length, Err, Ok, Result}
use Rattle.base.specs.Pick.{pick}
use Rattle.locations.specs.declared.LocationField.TheVariants.{Zone, Zone1970}
use Rattle.field_checks.specs.Check.{check_of}
use Rattle.location_lookup.specs.Location.{location_of}

-- a field that is neither 6 nor 7 is no such field: 12 "at the bytes' end", "after the check's faults"
abbrev pub no_field : List ℕ → Result (Unit {0}) Fault → Result Located Fault
no_field f (Err (n, p)) = Err (n, p)
no_field f (Ok tt) = Err (NotFound, length f)

unfoldable pub location_by : List ℕ → ℕ → ℕ → Result Located Fault
location_by f i number =
    pick (eqb i 6) (location_of f Zone number) (pick (eqb i 7) (location_of f Zone1970 number) (no_field f (check_of f)))
