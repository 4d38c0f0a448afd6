use Rattle.zone_replies.proofs.ZoneLaws.{gave-zone, denied-zone}
use Rattle.zone_replies.proofs.give_zone.Goals as goal

pub refusal-requires : goal.refusal-requires
refusal-requires c = rw c.in-Err.is at c.requires.to

pub returns-in-Ok : goal.returns-in-Ok
returns-in-Ok c = gave-zone _ _ _ c.in-Ok.is

pub returns-in-Err : goal.returns-in-Err
returns-in-Err c = denied-zone _ _ _ _ _ c.in-Err.is c.refusal.ensures
