use borrow.Author.Tests.{lt-ltb, le-ltb, eq-eqb, ne_eqb}
use Rattle.frames.specs.Frame.{order}
use Rattle.headers.proofs.order.Goals as goal

pub returns-then-id-prev : goal.returns-then-id-prev
unfolding order
returns-then-id-prev c = rw (c.if-seen.true, lt-ltb _ _ c.if-id-prev.true)

pub returns-then-id-prev-2 : goal.returns-then-id-prev-2
unfolding order
returns-then-id-prev-2 c = rw (c.if-seen.true, le-ltb _ _ c.if-id-prev.false, ne_eqb _ _ c.if-id-prev-2.true)

pub returns-then-once : goal.returns-then-once
unfolding order
returns-then-once c = rw (c.if-seen.true, le-ltb _ _ c.if-id-prev.false, eq-eqb _ _ c.if-id-prev-2.false, ← c.once.ensures, c.if-once.true)

pub returns-then-seen : goal.returns-then-seen
unfolding order
returns-then-seen c = rw (c.if-seen.true, le-ltb _ _ c.if-id-prev.false, eq-eqb _ _ c.if-id-prev-2.false, ← c.once.ensures, c.if-once.false)

pub returns-then-i-eq0 : goal.returns-then-i-eq0
unfolding order
returns-then-i-eq0 c = rw (c.if-seen.false, eq-eqb _ _ c.if-i-eq0.true)

pub returns : goal.returns
unfolding order
returns c = rw (c.if-seen.false, ne_eqb _ _ c.if-i-eq0.false)
