use mathlib.Core.Path.{refl}
use Prim.Native.Nat.{◌+◌}
use native.Mathlib.Omega.{arith}
use Rattle.strings.proofs.SameLaws.{part-differs, part_same, rest-decides}
use Rattle.strings.proofs.same_by_blocks.Goals as goal

pub loop-i-init : goal.loop-i-init
loop-i-init c = (omega arith, refl)

pub returns-then-not-same : goal.returns-then-not-same
returns-then-not-same c = part-differs _ _ c.loop-i.i _ _ c.same.ensures c.if-not-same.true

pub loop-i-preserved : goal.loop-i-preserved
loop-i-preserved c = (omega arith, part_same _ _ c.loop-i.i c.loop-i.invariant.1 (c.loop-i.i + 64) (omega arith) _ c.same.ensures c.if-not-same.false)

pub returns : goal.returns
returns c = rest-decides _ _ _ c.loop-i.invariant.1 _ c.same-2.ensures
