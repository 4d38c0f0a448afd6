-- What give_location asks: that the place of a refusal fits the result. To be believed by none: it is proved where it is asked.
use Rattle.location_lookup.specs.declared.Located.{Located}
use Rattle.base.specs.Coded.{Fault}
use Rattle.std.specs.Prelude.{◌≤◌, Err, Ok, Result}

abbrev pub LocationTo : Result Located Fault → Type 0
LocationTo (Ok x) = Unit {0}
LocationTo (Err (n, p)) = p ≤ 4194304

pub record SmallLocation (a : Result Located Fault) : Type 0 where
  pub to : LocationTo a
