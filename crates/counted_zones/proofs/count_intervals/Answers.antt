use Rattle.counted_zones.proofs.CountLaws.{going_start, going_on, going-one, going_end, going-list, going-interval}
use native.Mathlib.Omega.{arith}
use mathlib.Core.Path.{refl}
use Rattle.counted_zones.proofs.count_intervals.Goals as goal

pub loop-n-init : goal.loop-n-init
loop-n-init c = going_start _ _ _ _ c.requires.1

pub count_fives-f-requires : goal.count_fives-f-requires
count_fives-f-requires c = going-list _ _ _ _ _ _ _ c.loop-n.invariant c.requires.0

pub count_ticks-r-requires : goal.count_ticks-r-requires
count_ticks-r-requires c = going-list _ _ _ _ _ _ _ (going_on _ _ _ _ _ _ _ c.loop-n.invariant _ _ _ c.count_fives-f.ensures.0) c.requires.0

pub shape_of-uses-then-n-eq0 : goal.shape_of-uses-then-n-eq0
shape_of-uses-then-n-eq0 c = (going_on _ _ _ _ _ _ _ (going_on _ _ _ _ _ _ _ c.loop-n.invariant _ _ _ c.count_fives-f.ensures.0) _ _ _ c.count_ticks-r.ensures.0).all

pub returns-then-n-eq0 : goal.returns-then-n-eq0
returns-then-n-eq0 c = going_end _ _ _ _ _ _ _ (going_on _ _ _ _ _ _ _ (going_on _ _ _ _ _ _ _ c.loop-n.invariant _ _ _ c.count_fives-f.ensures.0) _ _ _ c.count_ticks-r.ensures.0) c.requires.0 c.if-n-eq0.true

pub count_interval-place-requires : goal.count_interval-place-requires
count_interval-place-requires c = going-interval _ _ _ _ _ _ _ (going_on _ _ _ _ _ _ _ (going_on _ _ _ _ _ _ _ c.loop-n.invariant _ _ _ c.count_fives-f.ensures.0) _ _ _ c.count_ticks-r.ensures.0) c.requires.0 (omega (arith, c.if-n-eq0.false))

pub overflow_sub-n : goal.overflow_sub-n
overflow_sub-n c = omega (arith, c.if-n-eq0.false)

pub loop-n-smaller : goal.loop-n-smaller
loop-n-smaller c = omega (arith, c.if-n-eq0.false, c.count_fives-f.ensures.1, c.count_ticks-r.ensures.1)

pub loop-n-preserved : goal.loop-n-preserved
loop-n-preserved c = going-one _ _ _ _ _ _ _ (going_on _ _ _ _ _ _ _ (going_on _ _ _ _ _ _ _ c.loop-n.invariant _ _ _ c.count_fives-f.ensures.0) _ _ _ c.count_ticks-r.ensures.0) c.requires.0 (omega (arith, c.if-n-eq0.false)) _ _ _ c.count_interval-place.ensures refl
