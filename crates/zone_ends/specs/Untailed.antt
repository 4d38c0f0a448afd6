-- What the code's test stands for. The code's way, tied to what is read there by `UntailedAt` itself.
use Rattle.std.specs.Prelude.{ℕ, ◌≡◌, Bool, true, List, drop}
use Rattle.zones.specs.Parse.{after_intervals}
use Rattle.zones.specs.View.{EndOf}
use Rattle.zones.specs.declared.ZoneEnd.TheVariants.{Untailed}

-- where r is true, end of time and no tail stand at a place, behind any intervals
pub record UntailedAt (s : List ℕ) (place : ℕ) (r : Bool) : Type 0 where
  pub to : r ≡ true → (pool last : ℕ) → EndOf (λ id is. after_intervals pool id is (drop place s)) last Untailed
