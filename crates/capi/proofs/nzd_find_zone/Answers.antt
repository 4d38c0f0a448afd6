use native.Mathlib.Omega.{arith}
use Rattle.capi.proofs.ZoneLaws.{finding-small}
use Rattle.capi.proofs.nzd_find_zone.Goals as goal

pub give_zone-requires : goal.give_zone-requires
give_zone-requires c = finding-small _ _ (omega (arith, c.well_formed.0.1)) _ c.find_zone-x.ensures

pub returns : goal.returns
returns c = record { finding = c.find_zone-x.result; finds = c.find_zone-x.ensures; gives = c.give_zone.ensures }
