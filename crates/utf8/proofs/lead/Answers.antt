use borrow.Author.Tests.{lt-ltb, le-ltb, eq-eqb, ne_eqb}
use Rattle.utf8.proofs.lead.Goals as goal

pub returns-then-b-lt128 : goal.returns-then-b-lt128
returns-then-b-lt128 c = rw (lt-ltb _ _ c.if-b-lt128.true)

pub returns-then-b-lt194 : goal.returns-then-b-lt194
returns-then-b-lt194 c = rw (le-ltb _ _ c.if-b-lt128.false, lt-ltb _ _ c.if-b-lt194.true)

pub returns-then-b-lt224 : goal.returns-then-b-lt224
returns-then-b-lt224 c = rw (le-ltb _ _ c.if-b-lt128.false, le-ltb _ _ c.if-b-lt194.false, lt-ltb _ _ c.if-b-lt224.true)

pub returns-then-b-eq224 : goal.returns-then-b-eq224
returns-then-b-eq224 c = rw (le-ltb _ _ c.if-b-lt128.false, le-ltb _ _ c.if-b-lt194.false, le-ltb _ _ c.if-b-lt224.false, eq-eqb _ _ c.if-b-eq224.true)

pub returns-then-b-eq237 : goal.returns-then-b-eq237
returns-then-b-eq237 c = rw (le-ltb _ _ c.if-b-lt128.false, le-ltb _ _ c.if-b-lt194.false, le-ltb _ _ c.if-b-lt224.false, ne_eqb _ _ c.if-b-eq224.false, eq-eqb _ _ c.if-b-eq237.true)

pub returns-then-b-lt240 : goal.returns-then-b-lt240
returns-then-b-lt240 c = rw (le-ltb _ _ c.if-b-lt128.false, le-ltb _ _ c.if-b-lt194.false, le-ltb _ _ c.if-b-lt224.false, ne_eqb _ _ c.if-b-eq224.false, ne_eqb _ _ c.if-b-eq237.false, lt-ltb _ _ c.if-b-lt240.true)

pub returns-then-b-eq240 : goal.returns-then-b-eq240
returns-then-b-eq240 c = rw (le-ltb _ _ c.if-b-lt128.false, le-ltb _ _ c.if-b-lt194.false, le-ltb _ _ c.if-b-lt224.false, ne_eqb _ _ c.if-b-eq224.false, ne_eqb _ _ c.if-b-eq237.false, le-ltb _ _ c.if-b-lt240.false, eq-eqb _ _ c.if-b-eq240.true)

pub returns-then-b-lt244 : goal.returns-then-b-lt244
returns-then-b-lt244 c = rw (le-ltb _ _ c.if-b-lt128.false, le-ltb _ _ c.if-b-lt194.false, le-ltb _ _ c.if-b-lt224.false, ne_eqb _ _ c.if-b-eq224.false, ne_eqb _ _ c.if-b-eq237.false, le-ltb _ _ c.if-b-lt240.false, ne_eqb _ _ c.if-b-eq240.false, lt-ltb _ _ c.if-b-lt244.true)

pub returns-then-b-eq244 : goal.returns-then-b-eq244
returns-then-b-eq244 c = rw (le-ltb _ _ c.if-b-lt128.false, le-ltb _ _ c.if-b-lt194.false, le-ltb _ _ c.if-b-lt224.false, ne_eqb _ _ c.if-b-eq224.false, ne_eqb _ _ c.if-b-eq237.false, le-ltb _ _ c.if-b-lt240.false, ne_eqb _ _ c.if-b-eq240.false, le-ltb _ _ c.if-b-lt244.false, eq-eqb _ _ c.if-b-eq244.true)

pub returns : goal.returns
returns c = rw (le-ltb _ _ c.if-b-lt128.false, le-ltb _ _ c.if-b-lt194.false, le-ltb _ _ c.if-b-lt224.false, ne_eqb _ _ c.if-b-eq224.false, ne_eqb _ _ c.if-b-eq237.false, le-ltb _ _ c.if-b-lt240.false, ne_eqb _ _ c.if-b-eq240.false, le-ltb _ _ c.if-b-lt244.false, ne_eqb _ _ c.if-b-eq244.false)
