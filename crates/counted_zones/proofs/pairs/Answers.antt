use borrow.Author.Tests.{not-false}
use Rattle.counted_zones.proofs.PairLaws.{pairs_start, pairs_next}
use native.Mathlib.Omega.{arith}
use Prim.Native.Nat.{◌-◌}
use Rattle.counted_zones.proofs.pairs.Goals as goal

pub loop-left-init : goal.loop-left-init
loop-left-init c = pairs_start _ _ _ _ _

pub is_five-requires : goal.is_five-requires
is_five-requires c = (omega (arith, c.loop-left.invariant.1, c.loop-left.invariant.2, c.loop-left-test.true, c.requires.0), c.requires.1)

pub is_five-requires-in-loop-left : goal.is_five-requires-in-loop-left
is_five-requires-in-loop-left c = (omega (arith, c.loop-left.invariant.1, c.loop-left.invariant.2, c.loop-left-test.true, c.requires.0), c.requires.2)

pub loop-left-preserved : goal.loop-left-preserved
loop-left-preserved c = pairs_next _ _ _ _ _ _ _ c.loop-left.invariant c.loop-left-test.true _ _ c.is_five.ensures c.if-not-is_five.false c.is_five-in-loop-left.ensures c.if-not-is_five-2.false

pub overflow_sub-result : goal.overflow_sub-result
overflow_sub-result c = c.loop-left.invariant.2

pub returns : goal.returns
returns c = (c.loop-left.invariant.0, omega arith)
