use Rattle.location_replies.proofs.LocationLaws.{country-as}
use Rattle.capi.proofs.nzd_next_country.Goals as goal

pub returns : goal.returns
returns c = country-as _ _ _ _ _ _ _ _ _ c.next_country-x.ensures c.give_country.ensures
