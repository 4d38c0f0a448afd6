use mathlib.Core.Path.{refl, ◌∙◌}
use Prim.Native.Nat.{◌-◌}
use native.Mathlib.Omega.{arith}
use Rattle.std.specs.declared.cmp.Ordering.TheVariants.{Less, Equal, Greater}
use Rattle.string_order.proofs.OrderLaws.{four-decide}
use Rattle.string_order.proofs.compare_fours.Goals as goal

pub loop-i-init : goal.loop-i-init
loop-i-init c = (omega arith, refl)

pub returns-in-Less : goal.returns-in-Less
returns-in-Less c = four-decide _ _ c.loop-i.i (omega arith) (omega arith) _ c.compare_four-o.ensures Less c.in-Less.is ∙ c.loop-i.invariant.1

pub returns-in-Greater : goal.returns-in-Greater
returns-in-Greater c = four-decide _ _ c.loop-i.i (omega arith) (omega arith) _ c.compare_four-o.ensures Greater c.in-Greater.is ∙ c.loop-i.invariant.1

pub loop-i-preserved : goal.loop-i-preserved
loop-i-preserved c = (omega arith, four-decide _ _ c.loop-i.i (omega arith) (omega arith) _ c.compare_four-o.ensures Equal c.in-Equal.is ∙ c.loop-i.invariant.1)

pub compare_bytes-requires : goal.compare_bytes-requires
compare_bytes-requires c = (c.requires.0, omega arith)

pub returns : goal.returns
returns c = c.compare_bytes.ensures ∙ c.loop-i.invariant.1
