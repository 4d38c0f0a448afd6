use mathlib.Core.Path.{sym, ◌∙◌}
use mathlib.Core.Bool.{true, false}
use Rattle.utf8.proofs.Utf8Laws.{size-by, size-cut, size-ends}
use Rattle.utf8.proofs.size_at.Goals as goal

pub returns-then-s-at : goal.returns-then-s-at
returns-then-s-at c = size-cut _ _ c.requires _ _ _ (sym c.in-Some.is ∙ c.lead.ensures) c.if-s-at.true

pub returns-then-ends : goal.returns-then-ends
returns-then-ends c = size-ends _ _ c.requires _ _ _ true
    (sym c.in-Some.is ∙ c.lead.ensures)
    (rw c.if-ends.true at c.ends.ensures)

pub returns-in-None : goal.returns-in-None
returns-in-None c = size-by _ _ c.requires _ (sym c.in-None.is ∙ c.lead.ensures)

pub returns-else-ends : goal.returns-else-ends
returns-else-ends c = size-ends _ _ c.requires _ _ _ false
    (sym c.in-Some.is ∙ c.lead.ensures)
    (rw c.if-ends.false at c.ends.ensures)
