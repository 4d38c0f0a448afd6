use mathlib.Core.Path.{refl, ◌∙◌}
use Prim.Native.Nat.{◌-◌}
use native.Mathlib.Omega.{arith}
use Rattle.string_order.proofs.OrderLaws.{byte-less, byte-greater, byte-equal, ends-less, ends-greater, ends-equal}
use Rattle.string_order.proofs.compare_bytes.Goals as goal

pub loop-i-init : goal.loop-i-init
loop-i-init c = (omega arith, refl)

pub returns-then-a-i : goal.returns-then-a-i
returns-then-a-i c = byte-less _ _ c.loop-i.i (omega arith) (omega arith) c.if-a-i.true ∙ c.loop-i.invariant.1

pub returns-then-b-i : goal.returns-then-b-i
returns-then-b-i c = byte-greater _ _ c.loop-i.i (omega arith) (omega arith) c.if-b-i.true ∙ c.loop-i.invariant.1

pub loop-i-preserved : goal.loop-i-preserved
loop-i-preserved c = (omega arith, byte-equal _ _ c.loop-i.i (omega arith) (omega arith) (omega arith) ∙ c.loop-i.invariant.1)

pub returns-then-n-b : goal.returns-then-n-b
returns-then-n-b c = ends-less _ _ c.loop-i.i (omega arith) (omega arith) ∙ c.loop-i.invariant.1

pub returns-then-n-a : goal.returns-then-n-a
returns-then-n-a c = ends-greater _ _ c.loop-i.i (omega arith) (omega arith) ∙ c.loop-i.invariant.1

pub returns : goal.returns
returns c = ends-equal _ _ c.loop-i.i (omega arith) (omega arith) ∙ c.loop-i.invariant.1
