use mathlib.Core.Path.{ap}
use Rattle.places.proofs.PlaceLaws.{stands-is}
use Rattle.intervals.specs.Scan.{of_interval}
use Rattle.cursors.proofs.StepLaws.{at_last, at_inner, at_none}
use Rattle.listed_cursors.proofs.at_interval.Goals as goal

pub returns-then-left-eq0 : goal.returns-then-left-eq0
returns-then-left-eq0 c = at_last _ _ _ _ _ _ c.requires c.if-left-eq0.true _ _ c.list_end-end.ensures c.until-held.ensures

pub returns-in-Ok : goal.returns-in-Ok
returns-in-Ok c = at_inner _ _ _ _ _ _ c.requires c.if-left-eq0.false _ _ (stands-is c.read_interval.ensures (ap of_interval c.in-Ok.is)) _ c.until-held-in-Ok.ensures

pub returns-in-Err : goal.returns-in-Err
returns-in-Err c = at_none _ _ _ _ _ _ c.requires c.if-left-eq0.false _ (stands-is c.read_interval.ensures (ap of_interval c.in-Err.is))
