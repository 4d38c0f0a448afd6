use mathlib.Core.Path.{ap, ◌∙◌}
use Rattle.places.specs.Placed.{of_read}
use Rattle.places.proofs.PlaceLaws.{then-in, then-got, then-bad, placed-got}
use Rattle.zones.specs.Parse.{after_id, parse_zone}
use Rattle.zones.proofs.ReadLaws.{front-bad, front-on, flag-fixed, flag-listed, flag-unknown}
use Rattle.zones.proofs.ReadLaws.{head_fixed, head-listed}
use Rattle.zone_fronts.proofs.read_front.Goals as goal

pub byte_at-requires : goal.byte_at-requires
byte_at-requires c = then-in c.name_at.ensures _ _ (ap of_read c.in-Ok.is)

pub read_fixed-requires : goal.read_fixed-requires
read_fixed-requires c = then-in c.byte_at.ensures _ _ (ap of_read c.in-Ok-byte_at.is)

pub returns-then-flag-eq1 : goal.returns-then-flag-eq1
unfolding parse_zone after_id
returns-then-flag-eq1 c = front-on _ _ _ _ _ _ _
    (then-got c.name_at.ensures _ _ _
    (ap of_read c.in-Ok.is) ∙
    then-got c.byte_at.ensures _ _ _
    (ap of_read c.in-Ok-byte_at.is) ∙ flag-fixed _ _ _ _ c.if-flag-eq1.true)
    (head_fixed _ _ _ c.in-Ok.a _ c.in-Ok-byte_at.e
    (placed-got c.name_at.ensures _ _ (ap of_read c.in-Ok.is))
    (placed-got c.byte_at.ensures _ _ (ap of_read c.in-Ok-byte_at.is)) c.if-flag-eq1.true)
    c.read_fixed.ensures

pub read_interval_count-requires : goal.read_interval_count-requires
read_interval_count-requires c = then-in c.byte_at.ensures _ _
    (ap of_read c.in-Ok-byte_at.is)

pub returns-then-flag-eq2 : goal.returns-then-flag-eq2
unfolding parse_zone after_id
returns-then-flag-eq2 c = front-on _ _ _ _ _ _ _
    (then-got c.name_at.ensures _ _ _
    (ap of_read c.in-Ok.is) ∙
    then-got c.byte_at.ensures _ _ _
    (ap of_read c.in-Ok-byte_at.is) ∙
    flag-listed _ _ _ _ c.if-flag-eq1.false c.if-flag-eq2.true)
    (head-listed _ _ _ c.in-Ok.a _ c.in-Ok-byte_at.e
    (placed-got c.name_at.ensures _ _ (ap of_read c.in-Ok.is))
    (placed-got c.byte_at.ensures _ _ (ap of_read c.in-Ok-byte_at.is)) c.if-flag-eq2.true)
    c.read_interval_count.ensures

pub returns-in-Err : goal.returns-in-Err
unfolding parse_zone
returns-in-Err c = front-bad _ _ _ _ _ (then-bad c.name_at.ensures _ _ (ap of_read c.in-Err.is))

pub returns-in-Err-byte_at : goal.returns-in-Err-byte_at
unfolding parse_zone after_id
returns-in-Err-byte_at c = front-bad _ _ _ _ _
    (then-got c.name_at.ensures _ _ _
    (ap of_read c.in-Ok.is) ∙
    then-bad c.byte_at.ensures _ _ (ap of_read c.in-Err-byte_at.is))

pub returns-else-flag-eq2 : goal.returns-else-flag-eq2
unfolding parse_zone after_id
returns-else-flag-eq2 c = front-bad _ _ _ _ _
    (then-got c.name_at.ensures _ _ _
    (ap of_read c.in-Ok.is) ∙
    then-got c.byte_at.ensures _ _ _
    (ap of_read c.in-Ok-byte_at.is) ∙ flag-unknown _ _ _ _ c.if-flag-eq1.false c.if-flag-eq2.false)
