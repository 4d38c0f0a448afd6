use mathlib.Core.Path.{ap, ◌∙◌}
use Rattle.places.specs.Placed.{of_read}
use Rattle.places.proofs.PlaceLaws.{then-in, then-got, then-bad}
use Rattle.zones.specs.Parse.{parse_listed}
use Rattle.zones.proofs.ReadLaws.{front-bad, front-listed, count-zero, count_past, count-some}
use Rattle.pieces.specs.Content.{after_count as head_count}
use Rattle.zone_fronts.proofs.read_interval_count.Goals as goal

pub returns-then-n-eq0 : goal.returns-then-n-eq0
unfolding parse_listed
returns-then-n-eq0 c = front-bad _ _ _ _ _
    (then-got c.count_at.ensures _ _ _ (ap of_read c.in-Ok.is) ∙
    count-zero _ _ _ _ c.if-n-eq0.true)

pub returns-then-n-gt4096 : goal.returns-then-n-gt4096
unfolding parse_listed
returns-then-n-gt4096 c = front-bad _ _ _ _ _
    (then-got c.count_at.ensures _ _ _
    (ap of_read c.in-Ok.is) ∙ count_past _ _ _ _ c.if-n-gt4096.true)

pub returns-in-Err : goal.returns-in-Err
unfolding parse_listed
returns-in-Err c = front-bad _ _ _ _ _ (then-bad c.count_at.ensures _ _ (ap of_read c.in-Err.is))

pub returns-else-n-gt4096 : goal.returns-else-n-gt4096
unfolding parse_listed head_count
returns-else-n-gt4096 c = front-listed _ _ _ _ _ _ _
    (then-got c.count_at.ensures head_count _ _ (ap of_read c.in-Ok.is))
    (then-got c.count_at.ensures _ _ _ (ap of_read c.in-Ok.is) ∙
    count-some _ _ _ _ c.if-n-eq0.false c.if-n-gt4096.false)
    (then-in c.count_at.ensures _ _ (ap of_read c.in-Ok.is))
    c.if-n-eq0.false c.if-n-gt4096.false
