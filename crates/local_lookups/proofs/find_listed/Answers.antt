use mathlib.Core.Path.{ap}
use Rattle.places.proofs.PlaceLaws.{stands-is}
use Rattle.intervals.specs.Scan.{of_scan}
use Rattle.local_times.proofs.FindLaws.{held-bad, held-counted}
use Rattle.local_lookups.proofs.find_listed.Goals as goal

pub find_behind-requires : goal.find_behind-requires
find_behind-requires c = held-counted _ _ _ _ _ c.requires _ c.day_before.ensures _ _ (stands-is c.read_intervals.ensures.0 (ap of_scan c.in-Ok.is)) c.if-c-l.false

pub returns-in-Err : goal.returns-in-Err
returns-in-Err c = held-bad _ _ _ _ _ c.requires _ _ (stands-is c.read_intervals.ensures.0 (ap of_scan c.in-Err.is))
