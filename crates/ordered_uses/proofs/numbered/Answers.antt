use lib.ListN.{length-set, set, get_or}
use Prim.Native.Nat.{◌%◌}
use Rattle.use_order.proofs.FillLaws.{numbers-start, numbers-next, numbers-end}
use mathlib.Core.Path.{refl, ap, ◌∙◌}
use native.Mathlib.Omega.{arith}
use Rattle.ordered_uses.proofs.numbered.Goals as goal

pub loop-key-init : goal.loop-key-init
loop-key-init c = (omega arith, refl, numbers-start _)

pub loop-key-preserved : goal.loop-key-preserved
loop-key-preserved c = let e = c.loop-key.invariant.2 in (omega arith, simp length-set c.loop-key.invariant.1, ap (λ l. set l c.loop-key.key-index (get_or l c.loop-key.key-index 0 % 8192)) e ∙ numbers-next c.args.keys.now c.loop-key.key-index (omega arith))

pub returns : goal.returns
returns c = numbers-end c.args.keys.now _ c.loop-key.key-index (omega arith) c.loop-key.invariant.2
