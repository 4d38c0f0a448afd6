use native.Mathlib.Omega.{arith}
use Prim.Native.Nat.{◌-◌}
use Rattle.unchanged_files.proofs.UseLaws.{descending-start, descending-next, descending-end, descends-not}
use Rattle.unchanged_files.proofs.descends.Goals as goal

pub loop-i-init : goal.loop-i-init
loop-i-init c = descending-start _

pub overflow_sub-i : goal.overflow_sub-i
overflow_sub-i c = c.loop-i.invariant.some

pub bounds-uses-i : goal.bounds-uses-i
bounds-uses-i c = omega (arith, c.loop-i-test.true)

pub bounds-uses-i-in-loop-i : goal.bounds-uses-i-in-loop-i
bounds-uses-i-in-loop-i c = omega (arith, c.loop-i-test.true)

pub overflow_add-i : goal.overflow_add-i
overflow_add-i c = omega (arith, c.loop-i-test.true, c.well_formed)

pub loop-i-smaller : goal.loop-i-smaller
loop-i-smaller c = omega (arith, c.loop-i-test.true)

pub loop-i-preserved : goal.loop-i-preserved
loop-i-preserved c = descending-next _ _ _ c.loop-i.invariant _ c.below-bad.ensures

pub returns-then-bad-eq0 : goal.returns-then-bad-eq0
returns-then-bad-eq0 c = descending-end _ _ _ c.loop-i.invariant c.loop-i-test.false c.if-bad-eq0.true

pub returns : goal.returns
returns c = descends-not _
