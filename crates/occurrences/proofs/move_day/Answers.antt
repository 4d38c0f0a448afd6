use native.Mathlib.Omega.{arith}
use borrow.Author.Tests.{eq-eqb, ne_eqb}
use Rattle.occurrences.specs.Rules.{moved, on_or_after, on_or_before}
use Rattle.occurrences.proofs.move_day.Goals as goal

pub returns-then-weekday-eq0 : goal.returns-then-weekday-eq0
unfolding moved
returns-then-weekday-eq0 c = simp (eq-eqb _ _ c.if-weekday-eq0.true)

pub returns-then-after : goal.returns-then-after
unfolding moved on_or_after
returns-then-after c = simp (ne_eqb _ _ c.if-weekday-eq0.false, c.if-after.true) (omega arith)

pub returns-else-after : goal.returns-else-after
unfolding moved on_or_before
returns-else-after c = simp (ne_eqb _ _ c.if-weekday-eq0.false, c.if-after.false) (omega arith)
