use mathlib.Core.Path.{ap}
use Rattle.places.proofs.PlaceLaws.{stands-is}
use Rattle.intervals.specs.Scan.{of_interval}
use Rattle.cursors.proofs.OpenLaws.{opened-at, first-none, first-start, first-list}
use Rattle.listed_cursors.proofs.at_first.Goals as goal

pub at_interval-requires : goal.at_interval-requires
at_interval-requires c = first-list _ _ _ _ _ c.requires _ _ (stands-is c.read_interval.ensures (ap of_interval c.in-Ok.is))

pub returns-in-Err : goal.returns-in-Err
returns-in-Err c = first-none _ _ _ _ _ c.requires _ (stands-is c.read_interval.ensures (ap of_interval c.in-Err.is))

pub returns-in-Ok : goal.returns-in-Ok
returns-in-Ok c = opened-at _ _ _ _ _ (first-start _ _ _ _ _ c.requires _ _ (stands-is c.read_interval.ensures (ap of_interval c.in-Ok.is))) c.at_interval.ensures
