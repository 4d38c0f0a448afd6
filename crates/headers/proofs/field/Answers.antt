use mathlib.Core.Path.{◌∙◌}
use native.Mathlib.Omega.{arith}
use Rattle.base.proofs.Parts.{part-from}
use Rattle.frames.proofs.ReadLaws.{field-none, field-order, field-above, field-sized}
use Rattle.headers.proofs.field.Goals as goal

pub returns-then-r-eq0 : goal.returns-then-r-eq0
returns-then-r-eq0 c = field-none _ _ _ _ _ c.if-r-eq0.true

pub returns-in-Some : goal.returns-in-Some
returns-in-Some c = field-order _ _ _ _ _ _ (omega arith) c.order.ensures _ c.in-Some.is

pub returns-then-last-i : goal.returns-then-last-i
returns-then-last-i c = field-above _ _ _ _ _ _ (omega arith) c.order.ensures c.in_default.is c.if-last-i.true

pub returns : goal.returns
returns c = rw (part-from 1 _) at c.sized.ensures
    ∙ field-sized _ _ _ _ _ _ (omega arith) c.order.ensures c.in_default.is (omega arith)
