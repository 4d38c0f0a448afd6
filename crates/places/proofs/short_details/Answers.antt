use Rattle.places.proofs.ShortLaws.{details-long, details-are, details-none}
use Rattle.places.proofs.short_details.Goals as goal

pub returns-then-s-at-gt127 : goal.returns-then-s-at-gt127
returns-then-s-at-gt127 c = details-long _ _ c.if-s-at-gt127.true

pub returns-then-half_hours : goal.returns-then-half_hours
returns-then-half_hours c = details-are _ _ _ c.if-s-at-gt127.false c.half_hours.ensures _ c.if-half_hours.true
    c.half_hours-then-half_hours.ensures

pub returns : goal.returns
returns c = details-none _ _ _ c.if-s-at-gt127.false c.half_hours.ensures c.if-half_hours.false
