use native.Mathlib.Omega.{arith}
use mathlib.Core.Path.{refl}
use Rattle.old_dictionaries.proofs.PairLaws.{scan-done, scan-none, scan-inside, scan-same, scan-next}
use Rattle.old_pairs.proofs.has_key.Goals as goal

pub loop-left-init : goal.loop-left-init
loop-left-init c = record { inside = c.requires; rest = refl }

pub pair_at-requires : goal.pair_at-requires
pair_at-requires c = c.loop-left.invariant.inside

pub returns-in-None : goal.returns-in-None
returns-in-None c = scan-none _ _ _ _ _ c.loop-left.invariant c.loop-left-test.true _ c.pair_at.ensures c.in-None.is

pub slice_bounds-same-count : goal.slice_bounds-same-count
slice_bounds-same-count c = (scan-inside _ _ _ _ _ c.loop-left.invariant c.loop-left-test.true _ c.pair_at.ensures _ _ _ _ c.in-Some.is).0

pub slice_bounds-same-start : goal.slice_bounds-same-start
slice_bounds-same-start c = (scan-inside _ _ _ _ _ c.loop-left.invariant c.loop-left-test.true _ c.pair_at.ensures _ _ _ _ c.in-Some.is).0

pub slice_bounds-same-end : goal.slice_bounds-same-end
slice_bounds-same-end c = (scan-inside _ _ _ _ _ c.loop-left.invariant c.loop-left-test.true _ c.pair_at.ensures _ _ _ _ c.in-Some.is).1

pub returns-then-same : goal.returns-then-same
returns-then-same c = scan-same _ _ _ _ _ c.loop-left.invariant c.loop-left-test.true _ c.pair_at.ensures _ _ _ _ c.in-Some.is _ c.same.ensures c.if-same.true

pub overflow_sub-left : goal.overflow_sub-left
overflow_sub-left c = omega (arith, c.loop-left-test.true)

pub loop-left-smaller : goal.loop-left-smaller
loop-left-smaller c = omega (arith, c.loop-left-test.true)

pub loop-left-preserved : goal.loop-left-preserved
loop-left-preserved c = scan-next _ _ _ _ _ c.loop-left.invariant c.loop-left-test.true _ c.pair_at.ensures _ _ _ _ c.in-Some.is _ c.same.ensures c.if-same.false

pub returns : goal.returns
returns c = scan-done _ _ _ _ _ c.loop-left.invariant (omega arith)
