use Rattle.location_replies.proofs.LocationLaws.{gave-location, denied-location}
use Rattle.location_replies.proofs.give_location.Goals as goal

pub refusal-requires : goal.refusal-requires
refusal-requires c = rw c.in-Err.is at c.requires.to

pub returns-in-Ok : goal.returns-in-Ok
returns-in-Ok c = gave-location _ _ _ _ c.in-Ok.is

pub returns-in-Err : goal.returns-in-Err
returns-in-Err c = denied-location _ _ _ _ _ _ c.in-Err.is c.refusal.ensures
