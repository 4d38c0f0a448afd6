use Rattle.zones.proofs.ReadLaws.{refused-front, fixed-front, fixed-head, listed-front, listed-head}
use Rattle.lookups.proofs.WalkLaws.{read-bad, read-fixed, head-form, fixed-form, form-is, form-on}
use Rattle.zone_reads.proofs.check_form.Goals as goal

pub check_listed-requires : goal.check_listed-requires
check_listed-requires c = (listed-front _ _ _ _ _ c.read_usual_front.ensures _ _ _ c.in-Listed.is).1

pub returns-in-Refused : goal.returns-in-Refused
returns-in-Refused c = form-is _ _ _ _ (read-bad 0 _ _ _ (refused-front _ _ _ _ _ c.read_usual_front.ensures _ c.in-Refused.is))

pub returns-in-Fixed : goal.returns-in-Fixed
returns-in-Fixed c = form-is _ _ _ _
    (read-fixed 0 _ _ _ _ _ _ (fixed-front _ _ _ _ _ c.read_usual_front.ensures _ _ _ c.in-Fixed.is) (fixed-form _ _ (fixed-head _ _ _ _ _ c.read_usual_front.ensures _ _ _ c.in-Fixed.is)))

pub returns-in-Listed : goal.returns-in-Listed
returns-in-Listed c = form-on _ _ _ _ _ (listed-front _ _ _ _ _ c.read_usual_front.ensures _ _ _ c.in-Listed.is).0
    (head-form c.args.asked _ _ _ (listed-head _ _ _ _ _ c.read_usual_front.ensures _ _ _ c.in-Listed.is)) c.check_listed.ensures
