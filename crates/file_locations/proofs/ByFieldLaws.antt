-- A location by the field's number. Assumes nothing.
use Rattle.location_lookup.specs.declared.Located.{Located}
use Rattle.base.specs.declared.Refusal.{Refusal}
use Rattle.base.specs.declared.Refusal.TheVariants.{NotFound}
use Rattle.base.specs.Coded.{Fault}
use Rattle.std.specs.Prelude.{Err, Ok, Result}
use mathlib.Core.Path.{◌≡◌, ap}
use mathlib.Core.List.{List}
use Prim.Native.Nat.{ℕ}
use lib.ListN.{length}
use borrow.Author.Tests.{eq-eqb, ne_eqb}
use Rattle.field_checks.specs.Check.{check_of}
use Rattle.locations.specs.declared.LocationField.TheVariants.{Zone, Zone1970}
use Rattle.location_lookup.specs.Location.{location_of}
use Rattle.file_locations.specs.ByField.{no_field, location_by}

module _ (f : List ℕ) (i number : ℕ) where
  pub by-6 : (a : Result Located Fault) → i ≡ 6 → a ≡ location_of f Zone number → a ≡ location_by f i number
  unfolding location_by
  by-6 a q h = rw (eq-eqb i 6 q) h

  module _ (n₆ : i ≡ 6 → ⊥) where
    pub by-7 : (a : Result Located Fault) → i ≡ 7 → a ≡ location_of f Zone1970 number → a ≡ location_by f i number
    unfolding location_by
    by-7 a q h = rw (ne_eqb i 6 n₆, eq-eqb i 7 q) h

    module _ (n₇ : i ≡ 7 → ⊥) where
      pub by-ill : (n : Refusal) (p : ℕ) → Err (n, p) ≡ check_of f → Err (n, p) ≡ location_by f i number
      unfolding location_by
      by-ill n p h = rw (ne_eqb i 6 n₆, ne_eqb i 7 n₇) (ap (no_field f) h)

      pub by-none : Ok tt ≡ check_of f → Err (NotFound, length f) ≡ location_by f i number
      unfolding location_by
      by-none h = rw (ne_eqb i 6 n₆, ne_eqb i 7 n₇) (ap (no_field f) h)
