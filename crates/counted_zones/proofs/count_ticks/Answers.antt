use borrow.Author.Tests.{not-false}
use Rattle.counted_zones.proofs.CountLaws.{room-one, going_start, going-within, going-tick}
use lib.ListN.{length}
use Prim.Native.Nat.{◌+◌, ◌-◌}
use mathlib.Core.Path.{refl}
use native.Mathlib.Omega.{arith}
use Rattle.counted_zones.proofs.count_ticks.Goals as goal

pub loop-n-init : goal.loop-n-init
loop-n-init c = (going_start _ _ _ _ c.requires.1, omega arith)

pub overflow_sub-s : goal.overflow_sub-s
overflow_sub-s c = going-within _ _ _ _ _ _ _ c.loop-n.invariant.0 c.requires.0

pub is_tick-requires : goal.is_tick-requires
is_tick-requires c = omega (arith, going-within _ _ _ _ _ _ _ c.loop-n.invariant.0 c.requires.0, c.if-s-place-lt12.false)

pub overflow_add-place : goal.overflow_add-place
overflow_add-place c = omega (arith, going-within _ _ _ _ _ _ _ c.loop-n.invariant.0 c.requires.0, c.if-s-place-lt12.false, c.well_formed)

pub bounds-s-place : goal.bounds-s-place
bounds-s-place c = omega (arith, going-within _ _ _ _ _ _ _ c.loop-n.invariant.0 c.requires.0, c.if-s-place-lt12.false)

pub overflow_cast-s : goal.overflow_cast-s
overflow_cast-s c = omega (arith, c.shared_slice_known-in-loop-n-1.given (c.loop-n.place + 9))

pub mention-requires : goal.mention-requires
mention-requires c = room-one _ (length c.args.s.now - c.loop-n.place) _ c.loop-n.invariant.0.room (omega (arith, going-within _ _ _ _ _ _ _ c.loop-n.invariant.0 c.requires.0, c.if-s-place-lt12.false))

pub overflow_add-place-in-loop-n : goal.overflow_add-place-in-loop-n
overflow_add-place-in-loop-n c = omega (arith, going-within _ _ _ _ _ _ _ c.loop-n.invariant.0 c.requires.0, c.if-s-place-lt12.false, c.well_formed)

pub overflow_sub-n : goal.overflow_sub-n
overflow_sub-n c = omega (arith, c.loop-n-test.true)

pub loop-n-smaller : goal.loop-n-smaller
loop-n-smaller c = omega (arith, c.loop-n-test.true)

pub loop-n-preserved : goal.loop-n-preserved
loop-n-preserved c = (going-tick _ _ _ _ _ _ _ c.loop-n.invariant.0 c.requires.0 c.loop-n-test.true _ _ _ c.is_tick.ensures c.if-not-is_tick.false refl c.mention.ensures, omega (arith, c.loop-n.invariant.1))

pub shape_of-uses-after-loop-n : goal.shape_of-uses-after-loop-n
shape_of-uses-after-loop-n c = c.loop-n.invariant.0.all

pub returns-after-loop-n : goal.returns-after-loop-n
returns-after-loop-n c = c.loop-n.invariant

pub shape_of-uses-then-s-place-lt12 : goal.shape_of-uses-then-s-place-lt12
shape_of-uses-then-s-place-lt12 c = c.loop-n.invariant.0.all

pub returns-then-s-place-lt12 : goal.returns-then-s-place-lt12
returns-then-s-place-lt12 c = c.loop-n.invariant

pub shape_of-uses-then-not-is_tick : goal.shape_of-uses-then-not-is_tick
shape_of-uses-then-not-is_tick c = c.loop-n.invariant.0.all

pub returns-then-not-is_tick : goal.returns-then-not-is_tick
returns-then-not-is_tick c = c.loop-n.invariant
