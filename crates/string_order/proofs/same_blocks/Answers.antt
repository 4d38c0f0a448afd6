use mathlib.Core.Path.{refl, ◌∙◌}
use Prim.Native.Nat.{◌-◌}
use native.Mathlib.Omega.{arith}
use borrow.Author.Tests.{not-false}
use Rattle.string_order.proofs.OrderLaws.{part-equal}
use Rattle.string_order.proofs.same_blocks.Goals as goal

pub loop-i-init : goal.loop-i-init
loop-i-init c = (omega arith, refl)

pub returns-then-not-same : goal.returns-then-not-same
returns-then-not-same c = (omega arith, c.loop-i.invariant.1)

pub loop-i-preserved : goal.loop-i-preserved
loop-i-preserved c = (omega arith, part-equal _ _ c.loop-i.i _ (omega arith) (omega arith) (omega arith) _ c.same.ensures c.if-not-same.false ∙ c.loop-i.invariant.1)

pub returns : goal.returns
returns c = (omega arith, c.loop-i.invariant.1)
