use borrow.Author.Tests.{eq-eqb, ne_eqb}
use Rattle.calendar.specs.Calendar.{leap_day}
use Rattle.dates.proofs.leap_day.Goals as goal

pub returns-then-y-eq0-3 : goal.returns-then-y-eq0-3
unfolding leap_day
returns-then-y-eq0-3 c = simp (eq-eqb _ _ c.if-y-eq0.true, eq-eqb _ _ c.if-y-eq0-2.true, eq-eqb _ _ c.if-y-eq0-3.true)

pub returns-else-y-eq0-3 : goal.returns-else-y-eq0-3
unfolding leap_day
returns-else-y-eq0-3 c = simp (eq-eqb _ _ c.if-y-eq0.true, eq-eqb _ _ c.if-y-eq0-2.true, ne_eqb _ _ c.if-y-eq0-3.false)

pub returns-else-y-eq0-2 : goal.returns-else-y-eq0-2
unfolding leap_day
returns-else-y-eq0-2 c = simp (eq-eqb _ _ c.if-y-eq0.true, ne_eqb _ _ c.if-y-eq0-2.false)

pub returns-else-y-eq0 : goal.returns-else-y-eq0
unfolding leap_day
returns-else-y-eq0 c = simp (ne_eqb _ _ c.if-y-eq0.false)
