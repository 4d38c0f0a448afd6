use Rattle.transitions.proofs.MomentWriteLaws.{size-start, size-end, size-ticks, size-count}
use Rattle.transition_writers.proofs.moment_size.Goals as goal

pub returns-then-m-eq0 : goal.returns-then-m-eq0
returns-then-m-eq0 c = size-start _ _ c.if-m-eq0.true

pub returns-then-m-eq-END : goal.returns-then-m-eq-END
returns-then-m-eq-END c = size-end _ _ c.if-m-eq-END.true

pub returns-then-v-eq0 : goal.returns-then-v-eq0
returns-then-v-eq0 c = size-ticks _ _ _ c.if-m-eq0.false c.if-m-eq-END.false c.count_to-v.ensures c.if-v-eq0.true

pub returns : goal.returns
returns c = size-count _ _ _ c.if-m-eq0.false c.if-m-eq-END.false c.count_to-v.ensures _ c.if-v-eq0.false c.count_size.ensures
