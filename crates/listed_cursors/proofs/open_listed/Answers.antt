use mathlib.Core.Path.{ap}
use Rattle.places.proofs.PlaceLaws.{then-in, stands-is}
use Rattle.intervals.specs.Scan.{of_scan}
use Rattle.zones.proofs.ReadLaws.{end_is}
use Rattle.cursors.proofs.OpenLaws.{listed-bad, end_refused, end-untailed, end-tailed}
use Rattle.listed_cursors.proofs.open_listed.Goals as goal

pub read_end-ending-requires : goal.read_end-ending-requires
read_end-ending-requires c = then-in c.read_intervals.ensures.0 _ _ (ap of_scan c.in-Ok.is)

pub at_first-requires : goal.at_first-requires
at_first-requires c = end-untailed _ _ _ _ c.requires _ _ (stands-is c.read_intervals.ensures.0 (ap of_scan c.in-Ok.is)) _ c.read_end-ending.ensures c.in-Untailed.is

pub at_first-requires-in-Tailed : goal.at_first-requires-in-Tailed
at_first-requires-in-Tailed c = end-tailed _ _ _ _ c.requires _ _ (stands-is c.read_intervals.ensures.0 (ap of_scan c.in-Ok.is)) _ c.read_end-ending.ensures _ c.in-Tailed.is

pub returns-in-Err : goal.returns-in-Err
returns-in-Err c = listed-bad _ _ _ _ c.requires _ (stands-is c.read_intervals.ensures.0 (ap of_scan c.in-Err.is))

pub returns-in-Refused : goal.returns-in-Refused
returns-in-Refused c = end_refused _ _ _ _ c.requires _ _ (stands-is c.read_intervals.ensures.0 (ap of_scan c.in-Ok.is)) _ (end_is c.read_end-ending.ensures c.in-Refused.is)
