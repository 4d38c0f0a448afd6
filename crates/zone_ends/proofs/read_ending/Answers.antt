use mathlib.Core.Path.{◌∙◌}
use Rattle.zones.proofs.ReadLaws.{zone-here, zone-over, end-bad, end-untailed, end_on, none_kept, none-refused, tail-kept, tail-early, tail-endless, tail-unknown}
use Rattle.zone_ends.proofs.read_ending.Goals as goal

pub returns-then-at-s : goal.returns-then-at-s
returns-then-at-s c = end-bad _ _ _
    (λ id is l. none_kept _ _ _ _ _ _ c.if-b-eq0.true c.if-end-eq-END.true ∙ zone-over _ _ _ _ c.if-at-s.true)

pub returns-then-end-eq-END : goal.returns-then-end-eq-END
returns-then-end-eq-END c = end-untailed _ _ _ c.if-end-eq-END.true
    (λ id is l. none_kept _ _ _ _ _ _ c.if-b-eq0.true c.if-end-eq-END.true ∙ zone-here _ _ _ _ c.if-at-s.false)

pub returns-then-b-eq0 : goal.returns-then-b-eq0
returns-then-b-eq0 c = end-bad _ _ _ (λ id is l. none-refused _ _ _ _ _ _ c.if-b-eq0.true c.if-end-eq-END.false)

pub returns-then-end-lt-END : goal.returns-then-end-lt-END
returns-then-end-lt-END c = end_on _ _ _ _
    (λ id is l. tail-kept _ _ _ _ _ _ _ l c.if-b-eq1.true c.if-last-end.true
    c.if-end-lt-END.true) c.read_tailed.ensures

pub returns-else-end-lt-END : goal.returns-else-end-lt-END
returns-else-end-lt-END c = end-bad _ _ _ (λ id is l. tail-endless _ _ _ _ _ _ c.if-b-eq1.true c.if-end-lt-END.false)

pub returns-else-last-end : goal.returns-else-last-end
returns-else-last-end c = end-bad _ _ _ (λ id is l. tail-early _ _ _ _ _ _ _ l c.if-b-eq1.true c.if-last-end.false)

pub returns : goal.returns
returns c = end-bad _ _ _ (λ id is l. tail-unknown _ _ _ _ _ _ c.if-b-eq0.false c.if-b-eq1.false)
