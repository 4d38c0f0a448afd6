use mathlib.Core.Path.{ap, ◌∙◌}
use Rattle.places.proofs.PlaceLaws.{then-got, then-bad}
use Rattle.tails.specs.View.{of_tail}
use Rattle.zones.specs.Parse.{after_tail, parse_tailed}
use Rattle.zones.proofs.ReadLaws.{zone-here, zone-over, end-bad, end-tailed}
use Rattle.zone_ends.proofs.read_tailed.Goals as goal

pub returns-then-e-s : goal.returns-then-e-s
unfolding parse_tailed after_tail
returns-then-e-s c = end-bad _ _ _
    (λ id is l. then-got c.read_tail.ensures _ _ _ (ap of_tail c.in-Ok.is) ∙
    zone-over _ _ _ _ c.if-e-s.true)

pub returns-in-Err : goal.returns-in-Err
unfolding parse_tailed
returns-in-Err c = end-bad _ _ _ (λ id is l. then-bad c.read_tail.ensures _ _ (ap of_tail c.in-Err.is))

pub returns-else-e-s : goal.returns-else-e-s
unfolding parse_tailed after_tail
returns-else-e-s c = end-tailed _ _ _ _
    (λ id is l. then-got c.read_tail.ensures _ _ _ (ap of_tail c.in-Ok.is) ∙
    zone-here _ _ _ _ c.if-e-s.false)
