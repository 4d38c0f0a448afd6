use Prim.Native.Nat.{◌-◌}
use native.Mathlib.Omega.{arith}
use Rattle.zone_differences.proofs.CompareLaws.{side-name, side-points, comparing-start, comparing-most, step-later, step-finite, comparing-next, comparing-size, comparing-end}
use Rattle.zone_differences.proofs.compare.Goals as goal

pub loop-t-init : goal.loop-t-init
loop-t-init c = comparing-start _ _ _ _ _ _ _ _ _ _ _ _ _ _ _ c.requires

pub unlike-d-requires : goal.unlike-d-requires
unlike-d-requires c = (c.loop-t.invariant.both_at.left.ready, c.loop-t.invariant.both_at.right.ready, side-name _ _ _ _ _ _ _ c.loop-t.invariant.both_at.left c.loop-t.invariant.both_at.from, side-name _ _ _ _ _ _ _ c.loop-t.invariant.both_at.right c.loop-t.invariant.both_at.from)

pub mark-m-requires : goal.mark-m-requires
mark-m-requires c = comparing-most _ _ _ _ _ _ _ _ _ _ _ _ _ _ _ _ _ _ c.loop-t.invariant

pub seek-x-requires : goal.seek-x-requires
seek-x-requires c = side-points _ _ _ _ _ _ _ c.loop-t.invariant.both_at.left c.loop-t.invariant.both_at.from _ (omega (arith, step-later _ _ _ _ _ _ _ _ _ _ _ _ _ _ _ _ _ _ c.loop-t.invariant c.loop-t-test.true _ _ c.smaller.ensures c.smaller-e.ensures)) (step-finite _ _ _ _ _ _ _ _ _ _ _ _ _ _ _ _ _ _ c.loop-t.invariant c.loop-t-test.true _ _ c.smaller.ensures c.smaller-e.ensures)

pub seek-y-requires : goal.seek-y-requires
seek-y-requires c = side-points _ _ _ _ _ _ _ c.loop-t.invariant.both_at.right c.loop-t.invariant.both_at.from _ (omega (arith, step-later _ _ _ _ _ _ _ _ _ _ _ _ _ _ _ _ _ _ c.loop-t.invariant c.loop-t-test.true _ _ c.smaller.ensures c.smaller-e.ensures)) (step-finite _ _ _ _ _ _ _ _ _ _ _ _ _ _ _ _ _ _ c.loop-t.invariant c.loop-t-test.true _ _ c.smaller.ensures c.smaller-e.ensures)

pub loop-t-smaller : goal.loop-t-smaller
loop-t-smaller c = omega (arith, c.loop-t-test.true, step-later _ _ _ _ _ _ _ _ _ _ _ _ _ _ _ _ _ _ c.loop-t.invariant c.loop-t-test.true _ _ c.smaller.ensures c.smaller-e.ensures)

pub loop-t-preserved : goal.loop-t-preserved
loop-t-preserved c = comparing-next _ _ _ _ _ _ _ _ _ _ _ _ _ _ _ _ _ _ c.loop-t.invariant c.loop-t-test.true _ _ c.smaller.ensures c.smaller-e.ensures _ c.unlike-d.ensures _ _ c.mark-m.ensures _ _ c.seek-x.ensures c.seek-y.ensures

pub put_stretch-requires : goal.put_stretch-requires
put_stretch-requires c = comparing-most _ _ _ _ _ _ _ _ _ _ _ _ _ _ _ _ _ _ c.loop-t.invariant

pub shape_of-out : goal.shape_of-out
shape_of-out c = comparing-size _ _ _ _ _ _ _ _ _ _ _ _ _ _ _ _ _ _ c.loop-t.invariant _ _ _ c.put_stretch.ensures

pub returns : goal.returns
returns c = comparing-end _ _ _ _ _ _ _ _ _ _ _ _ _ _ _ _ _ _ c.loop-t.invariant c.loop-t-test.false _ _ c.put_stretch.ensures
