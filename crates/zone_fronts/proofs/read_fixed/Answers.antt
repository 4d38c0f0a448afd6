use mathlib.Core.Path.{refl, ap, ◌∙◌}
use Rattle.places.specs.Placed.{of_read}
use Rattle.places.proofs.PlaceLaws.{then-in, then-got, then-bad}
use Rattle.zones.specs.Parse.{parse_fixed}
use Rattle.zones.proofs.ReadLaws.{zone-here, zone-over, name-absent, name-present, front-bad, front-absent, front-present}
use Rattle.zone_fronts.proofs.read_fixed.Goals as goal

pub returns-then-a-s : goal.returns-then-a-s
unfolding parse_fixed
returns-then-a-s c = front-absent _ _ _ _ _ _ refl
    (then-got c.sum_at.ensures _ _ _ (ap of_read c.in-Ok.is) ∙ name-absent _ _ _ _ _ c.if-a-s.true)

pub name_at-requires : goal.name_at-requires
name_at-requires c = then-in c.sum_at.ensures _ _ (ap of_read c.in-Ok.is)

pub returns-then-e-s : goal.returns-then-e-s
unfolding parse_fixed
returns-then-e-s c = front-bad _ _ _ _ _
    (then-got c.sum_at.ensures _ _ _ (ap of_read c.in-Ok.is) ∙
    name-present _ _ _ _ _ (then-in c.sum_at.ensures _ _ (ap of_read c.in-Ok.is)) c.if-a-s.false ∙
    then-got c.name_at.ensures _ _ _ (ap of_read c.in-Ok-name_at.is) ∙
    zone-over _ _ _ _ c.if-e-s.true)

pub returns-in-Err : goal.returns-in-Err
unfolding parse_fixed
returns-in-Err c = front-bad _ _ _ _ _ (then-bad c.sum_at.ensures _ _ (ap of_read c.in-Err.is))

pub returns-in-Err-name_at : goal.returns-in-Err-name_at
unfolding parse_fixed
returns-in-Err-name_at c = front-bad _ _ _ _ _
    (then-got c.sum_at.ensures _ _ _ (ap of_read c.in-Ok.is) ∙
    name-present _ _ _ _ _ (then-in c.sum_at.ensures _ _ (ap of_read c.in-Ok.is)) c.if-a-s.false ∙
    then-bad c.name_at.ensures _ _ (ap of_read c.in-Err-name_at.is))

pub returns-else-e-s : goal.returns-else-e-s
unfolding parse_fixed
returns-else-e-s c = front-present _ _ _ _ _ _ _ refl
    (then-got c.sum_at.ensures _ _ _ (ap of_read c.in-Ok.is) ∙
    name-present _ _ _ _ _ (then-in c.sum_at.ensures _ _ (ap of_read c.in-Ok.is)) c.if-a-s.false ∙
    then-got c.name_at.ensures _ _ _ (ap of_read c.in-Ok-name_at.is) ∙
    zone-here _ _ _ _ c.if-e-s.false)
