use native.Mathlib.Omega.{arith}
use Rattle.use_order.proofs.FillLaws.{numbering_start, numbering-next, numbering-end}
use Rattle.ordered_uses.proofs.number.Goals as goal

pub loop-i-init : goal.loop-i-init
loop-i-init c = numbering_start _ _

pub loop-i-preserved : goal.loop-i-preserved
loop-i-preserved c = numbering-next _ _ _ _ _ c.loop-i.invariant (omega arith) c.store.ensures

pub shape_of-numbers : goal.shape_of-numbers
shape_of-numbers c = c.loop-i.invariant.all

pub returns : goal.returns
returns c = numbering-end _ _ _ _ c.loop-i.invariant (omega arith)
