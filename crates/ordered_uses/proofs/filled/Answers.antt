use native.Mathlib.Omega.{arith}
use Rattle.use_order.proofs.FillLaws.{filling-next, filling-end}
use Rattle.ordered_uses.proofs.filled.Goals as goal

pub loop-i-preserved : goal.loop-i-preserved
loop-i-preserved c = filling-next _ _ _ _ _ _ _ (omega arith) c.loop-i.invariant (omega arith) c.put-n.ensures

pub returns : goal.returns
returns c = filling-end _ _ _ _ _ (omega arith) c.loop-i.invariant (omega arith)
