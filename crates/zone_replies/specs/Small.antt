-- What the inner functions ask: that a place or a count fits where it goes. To be believed by none: each is proved where it is asked.
use Rattle.found_zones.specs.declared.FoundZone.{FoundZone}
use Rattle.base.specs.Coded.{Fault}
use Rattle.std.specs.Prelude.{◌≤◌, ◌<◌, ◌^◌, Err, Ok, Result, ℕ}

abbrev pub FindingTo : Result FoundZone Fault → Type 0
FindingTo (Ok v) = Unit {0}
FindingTo (Err (n, p)) = p ≤ 4194304

pub record SmallFinding (x : Result FoundZone Fault) : Type 0 where
  pub to : FindingTo x
