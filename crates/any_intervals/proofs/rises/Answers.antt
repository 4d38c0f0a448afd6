use borrow.Author.Tests.{lt-ltb, le-ltb, eq-eqb, ne_eqb}
use Rattle.any_intervals.proofs.rises.Goals as goal

pub returns-then-prev-eq-END : goal.returns-then-prev-eq-END
returns-then-prev-eq-END c = rw (eq-eqb _ _ c.if-prev-eq-END.true)

pub returns-then-prev-m : goal.returns-then-prev-m
returns-then-prev-m c = rw (ne_eqb _ _ c.if-prev-eq-END.false, lt-ltb _ _ c.if-prev-m.true)

pub returns : goal.returns
returns c = rw (ne_eqb _ _ c.if-prev-eq-END.false, le-ltb _ _ c.if-prev-m.false)
