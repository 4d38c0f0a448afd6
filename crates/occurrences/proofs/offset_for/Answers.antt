use borrow.Author.Tests.{eq-eqb, ne_eqb}
use Rattle.occurrences.specs.Rules.{subtracted}
use Rattle.occurrences.proofs.offset_for.Goals as goal

pub returns-then-mode-eq0 : goal.returns-then-mode-eq0
unfolding subtracted
returns-then-mode-eq0 c = simp (eq-eqb _ _ c.if-mode-eq0.true)

pub returns-then-mode-eq1 : goal.returns-then-mode-eq1
unfolding subtracted
returns-then-mode-eq1 c = simp (ne_eqb _ _ c.if-mode-eq0.false, eq-eqb _ _ c.if-mode-eq1.true)

pub returns-else-mode-eq1 : goal.returns-else-mode-eq1
unfolding subtracted
returns-else-mode-eq1 c = simp (ne_eqb _ _ c.if-mode-eq0.false, ne_eqb _ _ c.if-mode-eq1.false)
