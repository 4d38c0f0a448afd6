use Rattle.location_replies.proofs.LocationLaws.{gave-country}
use Rattle.location_replies.proofs.give_country.Goals as goal

pub returns-in-Some : goal.returns-in-Some
returns-in-Some c = gave-country _ _ _ _ _ _ c.in-Some.is
