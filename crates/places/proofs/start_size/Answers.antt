use borrow.Author.Tests.{eq-eqb, ne_eqb, lt-ltb, le-ltb}
use Rattle.places.specs.Long.{start_size}
use Rattle.places.proofs.start_size.Goals as goal

pub returns-then-s-at-eq2 : goal.returns-then-s-at-eq2
unfolding start_size
returns-then-s-at-eq2 c = rw (eq-eqb _ 2 c.if-s-at-eq2.true)

pub returns-then-s-at-lt128 : goal.returns-then-s-at-lt128
unfolding start_size
returns-then-s-at-lt128 c = rw (ne_eqb _ 2 c.if-s-at-eq2.false, lt-ltb _ 128 c.if-s-at-lt128.true)

pub returns-then-s-at-lt128-2 : goal.returns-then-s-at-lt128-2
unfolding start_size
returns-then-s-at-lt128-2 c = rw (ne_eqb _ 2 c.if-s-at-eq2.false, le-ltb _ 128 c.if-s-at-lt128.false, lt-ltb _ 128 c.if-s-at-lt128-2.true)

pub returns-then-s-at-lt128-3 : goal.returns-then-s-at-lt128-3
unfolding start_size
returns-then-s-at-lt128-3 c = rw (ne_eqb _ 2 c.if-s-at-eq2.false, le-ltb _ 128 c.if-s-at-lt128.false, le-ltb _ 128 c.if-s-at-lt128-2.false, lt-ltb _ 128 c.if-s-at-lt128-3.true)

pub returns-then-s-at-lt128-4 : goal.returns-then-s-at-lt128-4
unfolding start_size
returns-then-s-at-lt128-4 c = rw (ne_eqb _ 2 c.if-s-at-eq2.false, le-ltb _ 128 c.if-s-at-lt128.false, le-ltb _ 128 c.if-s-at-lt128-2.false, le-ltb _ 128 c.if-s-at-lt128-3.false, lt-ltb _ 128 c.if-s-at-lt128-4.true)

pub returns : goal.returns
unfolding start_size
returns c = rw (ne_eqb _ 2 c.if-s-at-eq2.false, le-ltb _ 128 c.if-s-at-lt128.false, le-ltb _ 128 c.if-s-at-lt128-2.false, le-ltb _ 128 c.if-s-at-lt128-3.false, le-ltb _ 128 c.if-s-at-lt128-4.false)
