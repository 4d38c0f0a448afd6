use Rattle.location_replies.proofs.LocationLaws.{location-as}
use Rattle.capi.proofs.LocationLaws.{location-small}
use Rattle.capi.proofs.nzd_location.Goals as goal

pub give_location-requires : goal.give_location-requires
give_location-requires c = location-small _ _ _ _ c.location_by-a.ensures

pub returns : goal.returns
returns c = location-as _ _ _ _ _ _ _ c.location_by-a.ensures c.give_location.ensures
