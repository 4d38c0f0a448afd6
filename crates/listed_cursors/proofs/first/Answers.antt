use Rattle.zones.proofs.ReadLaws.{refused-front, fixed-front}
use Rattle.cursors.proofs.OpenLaws.{opened-bad, opened-fixed, intervals-at}
use Rattle.listed_cursors.proofs.first.Goals as goal

pub open_listed-requires : goal.open_listed-requires
open_listed-requires c = intervals-at _ _ _ _ c.read_front.ensures _ _ _ c.in-Listed.is

pub returns-in-Refused : goal.returns-in-Refused
returns-in-Refused c = opened-bad _ _ _ (refused-front _ _ _ _ _ c.read_front.ensures _ c.in-Refused.is)

pub returns-in-Fixed : goal.returns-in-Fixed
returns-in-Fixed c = opened-fixed _ _ _ _ _ (fixed-front _ _ _ _ _ c.read_front.ensures _ _ _ c.in-Fixed.is) _ _
