use Rattle.zones.proofs.ReadLaws.{refused-front, fixed-front, fixed-head, listed-front, listed-head}
use Rattle.lookups.proofs.WalkLaws.{read-bad, read-on, read-fixed, head-form, fixed-form}
use Rattle.zone_reads.proofs.read_zone.Goals as goal

pub read_listed-requires : goal.read_listed-requires
read_listed-requires c = (listed-front _ _ _ _ _ c.read_usual_front.ensures _ _ _ c.in-Listed.is).1

pub returns-in-Refused : goal.returns-in-Refused
returns-in-Refused c = read-bad _ _ _ _ (refused-front _ _ _ _ _ c.read_usual_front.ensures _ c.in-Refused.is)

pub returns-in-Fixed : goal.returns-in-Fixed
returns-in-Fixed c = read-fixed _ _ _ _ _ _ _ (fixed-front _ _ _ _ _ c.read_usual_front.ensures _ _ _ c.in-Fixed.is)
    (fixed-form _ _ (fixed-head _ _ _ _ _ c.read_usual_front.ensures _ _ _ c.in-Fixed.is))

pub returns-in-Listed : goal.returns-in-Listed
returns-in-Listed c = read-on _ _ _ _ _ _ (listed-front _ _ _ _ _ c.read_usual_front.ensures _ _ _ c.in-Listed.is).0
    (head-form c.args.preferred _ _ _ (listed-head _ _ _ _ _ c.read_usual_front.ensures _ _ _ c.in-Listed.is))
    c.read_listed.ensures
