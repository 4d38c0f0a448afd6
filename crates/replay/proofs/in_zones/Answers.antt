use mathlib.Core.Path.{sym}
use Prim.Native.Nat.{ℕ}
use lib.ListN.{length-replicate}
use native.Mathlib.Omega.{arith}
use Rattle.replay.proofs.OpenLaws.{fails-agrees, reached-finds, reached-passed}
use Rattle.replay.proofs.ReplayLaws.{records-first, replayed-start, going-wrong, going_done, replayed-still, replayed-same, replayed-found, replayed-wrong}
use Rattle.replay.proofs.in_zones.Goals as goal

pub loop-left-init : goal.loop-left-init
loop-left-init c = (replayed-start _ _ _ _ _ _ _ c.requires.0 c.requires.1.lies _ c.none_kept-none.ensures, length-replicate {A = ℕ} 8449 0)

pub still_agrees-requires : goal.still_agrees-requires
still_agrees-requires c = let r = records-first _ _ _ _ c.loop-left.invariant.0.going.records c.loop-left-test.true in (r.0, r.1, λ h. (c.loop-left.invariant.0.latest.to h).inside)

pub overflow_add-i : goal.overflow_add-i
overflow_add-i c = omega (arith, c.loop-left.invariant.0.going.count, c.requires.0.few)

pub overflow_add-place : goal.overflow_add-place
overflow_add-place c = omega (arith, c.loop-left.invariant.0.going.records.recorded)

pub loop-left-preserved-then-still_agrees : goal.loop-left-preserved-then-still_agrees
loop-left-preserved-then-still_agrees c = (replayed-still _ _ _ _ _ _ _ _ _ _ _ _ _ _ _ _ _ c.loop-left.invariant.0 c.loop-left-test.true _ c.still_agrees.ensures c.if-still_agrees.true, c.loop-left.invariant.1)

pub key-h-requires : goal.key-h-requires
key-h-requires c = records-first _ _ _ _ c.loop-left.invariant.0.going.records c.loop-left-test.true

pub seek-k-requires : goal.seek-k-requires
seek-k-requires c = c.loop-left.invariant.0.marked

pub bounds-kept-k : goal.bounds-kept-k
bounds-kept-k c = c.seek-k.ensures

pub has_name-requires : goal.has_name-requires
has_name-requires c = let r = records-first _ _ _ _ c.loop-left.invariant.0.going.records c.loop-left-test.true in (r.0, r.1, λ h. ((c.loop-left.invariant.0.good _ _ c.seek-k.ensures).to h).inside)

pub take_same-now-requires : goal.take_same-now-requires
take_same-now-requires c = let r = records-first _ _ _ _ c.loop-left.invariant.0.going.records c.loop-left-test.true in let w = c.has_name.ensures.to c.if-has_name.true in (r.0, w.0, w.1, c.loop-left.invariant.0.good _ _ c.seek-k.ensures)

pub bounds-kept-k-then-now : goal.bounds-kept-k-then-now
bounds-kept-k-then-now c = c.seek-k.ensures

pub overflow_add-i-then-now : goal.overflow_add-i-then-now
overflow_add-i-then-now c = omega (arith, c.loop-left.invariant.0.going.count, c.requires.0.few)

pub overflow_add-place-then-now : goal.overflow_add-place-then-now
overflow_add-place-then-now c = omega (arith, c.loop-left.invariant.0.going.records.recorded, c.loop-left-test.true, c.well_formed.1.1.1.1.1.0.1)

pub loop-left-preserved-then-now : goal.loop-left-preserved-then-now
loop-left-preserved-then-now c = (replayed-same _ _ _ _ _ _ _ _ _ _ _ _ _ _ _ _ _ c.loop-left.invariant.0 c.loop-left-test.true _ c.take_same-now.ensures c.if-now.true _ c.seek-k.ensures, c.loop-left.invariant.1)

pub returns-else-now : goal.returns-else-now
returns-else-now c = replayed-wrong _ _ _ _ _ _ _ _ _ _ _ _ _ _ _ _ _ c.loop-left.invariant.0 c.loop-left-test.true _ c.take_same-now.ensures c.if-now.false

pub reach_name-r-requires : goal.reach_name-r-requires
reach_name-r-requires c = let r = records-first _ _ _ _ c.loop-left.invariant.0.going.records c.loop-left-test.true in (r.0, r.1, c.requires.1.lies, c.requires.2, c.requires.3, c.loop-left.invariant.0.passed)

pub returns-then-r-eq0 : goal.returns-then-r-eq0
returns-then-r-eq0 c = going-wrong _ _ _ _ _ _ _ _ _ _ c.loop-left.invariant.0.going c.loop-left-test.true (fails-agrees _ _ _ _ _ _ c.requires.1 (c.reach_name-r.ensures.none c.if-r-eq0.true))

pub take_found-now-requires : goal.take_found-now-requires
take_found-now-requires c = let r = records-first _ _ _ _ c.loop-left.invariant.0.going.records c.loop-left-test.true in (r.0, r.1, reached-finds _ _ _ _ _ _ _ _ c.reach_name-r.ensures c.if-r-eq0.false c.requires.1 _ c.reached_zone-v.ensures)

pub offset_bounds-marks-k : goal.offset_bounds-marks-k
offset_bounds-marks-k c = omega (arith, c.seek-k.ensures)

pub bounds-marks-k : goal.bounds-marks-k
bounds-marks-k c = c.seek-k.ensures

pub offset_bounds-kept-k-then-now-2 : goal.offset_bounds-kept-k-then-now-2
offset_bounds-kept-k-then-now-2 c = omega (arith, c.seek-k.ensures)

pub bounds-kept-k-then-now-2 : goal.bounds-kept-k-then-now-2
bounds-kept-k-then-now-2 c = c.seek-k.ensures

pub overflow_sub-left-then-now-2 : goal.overflow_sub-left-then-now-2
overflow_sub-left-then-now-2 c = omega (arith, c.loop-left-test.true)

pub overflow_add-i-then-now-2 : goal.overflow_add-i-then-now-2
overflow_add-i-then-now-2 c = omega (arith, c.loop-left.invariant.0.going.count, c.requires.0.few)

pub overflow_add-place-then-now-2 : goal.overflow_add-place-then-now-2
overflow_add-place-then-now-2 c = omega (arith, c.loop-left.invariant.0.going.records.recorded, c.loop-left-test.true, c.well_formed.1.1.1.1.1.0.1)

pub loop-left-smaller : goal.loop-left-smaller
loop-left-smaller c = omega (arith, c.loop-left-test.true)

pub loop-left-preserved : goal.loop-left-preserved
loop-left-preserved c = (replayed-found _ _ _ _ _ _ _ _ _ _ _ _ _ _ _ _ _ c.loop-left.invariant.0 c.loop-left-test.true _ c.take_found-now.ensures c.if-now-2.true _ _ c.seek-k.ensures _ _ _ _ (reached-passed _ _ _ _ _ _ _ _ c.reach_name-r.ensures c.if-r-eq0.false), c.order-else-has_name-1.given)

pub returns-else-now-2 : goal.returns-else-now-2
returns-else-now-2 c = replayed-wrong _ _ _ _ _ _ _ _ _ _ _ _ _ _ _ _ _ c.loop-left.invariant.0 c.loop-left-test.true _ c.take_found-now.ensures c.if-now-2.false

pub returns : goal.returns
returns c = going_done _ _ _ _ _ _ _ _ _ _ c.loop-left.invariant.0.going (omega arith)

pub slice_bounds-reach_name-end : goal.slice_bounds-reach_name-end
slice_bounds-reach_name-end c = sym c.loop-left.invariant.1
