-- Where a refusal is placed. To be believed.
use Rattle.std.specs.Prelude.{ℕ, ◌≤◌, List, length}
use Rattle.base.specs.Numbers.{GivenBack, place_given}

-- "the place of the faulty field's ID byte, or the bytes' end where no field has begun", or 0: within the bytes f, or their end
pub record PlacedIn (f : List ℕ) (x : GivenBack) : Type 0 where
  pub place : place_given x ≤ length f
