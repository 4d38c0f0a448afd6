-- One location of a field by number, and the check of a field. To be believed.
use Rattle.base.specs.declared.Refusal.{Refusal}
use Rattle.std.specs.declared.option.Option.{Option}
use Rattle.std.specs.declared.option.Option.TheVariants.{None, Some}
use Rattle.base.specs.Coded.{Coded}
use Rattle.std.specs.Prelude.{ℕ, zero, suc, ◌-◌, List, [], ◌∷◌, length, eqb, Err, Ok, Result}
use Rattle.base.specs.Pick.{pick}
use Rattle.base.specs.Parsed.{Parsed, got, bad, bind}
use Rattle.places.specs.Placed.{Placed, at, no}
use Rattle.locations.specs.Content.{Location}
use Rattle.locations.specs.declared.Country.{Country}
use Rattle.locations.specs.declared.Spot.{Spot}

-- a location of the field's data s as the code has it: its countries by place and number
abbrev pub spot_of : List ℕ → Location → Spot
spot_of s l = record {
  latitude = l.latitude;
  longitude = l.longitude;
  at = length s - length l.behind;
  left = length l.countries;
  zone = l.zone;
  comment = l.comment;
}

-- "number from 0"
unfoldable pub numbered : List ℕ → ℕ → List Location → Result (Option Spot) Refusal
numbered s number [] = Ok None
numbered s zero (l ∷ ls) = Ok (Some (spot_of s l))
numbered s (suc number) (l ∷ ls) = numbered s number ls

unfoldable pub sought_of : List ℕ → ℕ → Parsed (List Location) → Result (Option Spot) Refusal
sought_of s number (got ls r) = numbered s number ls
sought_of s number (bad k) = Err k

unfoldable pub verdict_of : Parsed (List Location) → Result (Unit {0}) Refusal
verdict_of (got ls r) = Ok tt
verdict_of (bad k) = Err k

-- what the readers give
abbrev pub of_country : Coded Country → Placed Country
of_country (Ok (c, e)) = at c e
of_country (Err k) = no k

abbrev pub of_spot : Coded Spot → Placed Spot
of_spot (Ok (x, e)) = at x e
of_spot (Err k) = no k

unfoldable pub how_many : Parsed (List Country) → Parsed ℕ
how_many p = bind p (λ cs r. got (length cs) r)

unfoldable pub spots_of : List ℕ → Parsed Location → Parsed Spot
spots_of s p = bind p (λ l r. got (spot_of s l) r)

-- the asked location, behind the location x with the number i
abbrev pub kept_by : ℕ → ℕ → Spot → Result (Option Spot) Refusal → Result (Option Spot) Refusal
kept_by number i x found = pick (eqb i number) (Ok (Some x)) found
