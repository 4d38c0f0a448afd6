use native.Mathlib.Omega.{arith}
use mathlib.Core.Path.{refl}
use Prim.Native.Nat.{◌+◌, ◌-◌}
use lib.ListN.{length}
use Rattle.counted_zones.proofs.CountLaws.{room-one, going_start, going-within, going-five, going-list, going_on}
use borrow.Author.Tests.{not-false}
use Rattle.counted_zones.proofs.count_fives.Goals as goal

pub loop-n-init : goal.loop-n-init
loop-n-init c = (going_start _ _ _ _ c.requires.1, omega arith)

pub overflow_sub-s : goal.overflow_sub-s
overflow_sub-s c = going-within _ _ _ _ _ _ _ c.loop-n.invariant.0 c.requires.0

pub overflow_add-j : goal.overflow_add-j
overflow_add-j c = omega (arith, going-within _ _ _ _ _ _ _ c.loop-n.invariant.0 c.requires.0, c.if-s-place-lt5.false, c.well_formed)

pub bounds-s-place : goal.bounds-s-place
bounds-s-place c = omega (arith, going-within _ _ _ _ _ _ _ c.loop-n.invariant.0 c.requires.0, c.if-s-place-lt5.false)

pub overflow_cast-j : goal.overflow_cast-j
overflow_cast-j c = omega (arith, c.shared_slice_known-in-loop-n-1.given (c.loop-n.place + 2))

pub is_five-requires : goal.is_five-requires
is_five-requires c = (omega (arith, going-within _ _ _ _ _ _ _ c.loop-n.invariant.0 c.requires.0, c.if-s-place-lt5.false), omega (arith, c.if-j-gt127.false))

pub mention-requires : goal.mention-requires
mention-requires c = room-one _ (length c.args.s.now - c.loop-n.place) _ c.loop-n.invariant.0.room (omega (arith, going-within _ _ _ _ _ _ _ c.loop-n.invariant.0 c.requires.0, c.if-s-place-lt5.false))

pub overflow_add-place : goal.overflow_add-place
overflow_add-place c = omega (arith, going-within _ _ _ _ _ _ _ c.loop-n.invariant.0 c.requires.0, c.if-s-place-lt5.false, c.well_formed)

pub overflow_sub-n : goal.overflow_sub-n
overflow_sub-n c = omega (arith, c.loop-n-test.true)

pub count_pairs-r-requires : goal.count_pairs-r-requires
count_pairs-r-requires c = ((going-list _ _ _ _ _ _ _ (going-five _ _ _ _ _ _ _ c.loop-n.invariant.0 c.requires.0 c.loop-n-test.true _ _ _ _ c.is_five.ensures c.if-not-is_five.false refl c.mention.ensures) c.requires.0).0, (going-list _ _ _ _ _ _ _ (going-five _ _ _ _ _ _ _ c.loop-n.invariant.0 c.requires.0 c.loop-n-test.true _ _ _ _ c.is_five.ensures c.if-not-is_five.false refl c.mention.ensures) c.requires.0).1, omega (arith, c.if-j-gt127.false))

pub loop-n-smaller : goal.loop-n-smaller
loop-n-smaller c = omega (arith, c.count_pairs-r.ensures.1, c.loop-n-test.true)

pub loop-n-preserved : goal.loop-n-preserved
loop-n-preserved c = (going_on _ _ _ _ _ _ _ (going-five _ _ _ _ _ _ _ c.loop-n.invariant.0 c.requires.0 c.loop-n-test.true _ _ _ _ c.is_five.ensures c.if-not-is_five.false refl c.mention.ensures) _ _ _ c.count_pairs-r.ensures.0, omega (arith, c.loop-n.invariant.1, c.count_pairs-r.ensures.1, c.loop-n-test.true))

pub shape_of-uses-after-loop-n : goal.shape_of-uses-after-loop-n
shape_of-uses-after-loop-n c = c.loop-n.invariant.0.all

pub returns-after-loop-n : goal.returns-after-loop-n
returns-after-loop-n c = c.loop-n.invariant

pub shape_of-uses-then-s-place-lt5 : goal.shape_of-uses-then-s-place-lt5
shape_of-uses-then-s-place-lt5 c = c.loop-n.invariant.0.all

pub returns-then-s-place-lt5 : goal.returns-then-s-place-lt5
returns-then-s-place-lt5 c = c.loop-n.invariant

pub shape_of-uses-then-j-gt127 : goal.shape_of-uses-then-j-gt127
shape_of-uses-then-j-gt127 c = c.loop-n.invariant.0.all

pub returns-then-j-gt127 : goal.returns-then-j-gt127
returns-then-j-gt127 c = c.loop-n.invariant

pub shape_of-uses-then-not-is_five : goal.shape_of-uses-then-not-is_five
shape_of-uses-then-not-is_five c = c.loop-n.invariant.0.all

pub returns-then-not-is_five : goal.returns-then-not-is_five
returns-then-not-is_five c = c.loop-n.invariant
