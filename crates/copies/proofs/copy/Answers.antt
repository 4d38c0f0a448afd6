use mathlib.Core.Path.{refl}
use Prim.Native.Nat.{◌+◌}
use native.Mathlib.Omega.{arith}
use lib.ListN.{length}
use Rattle.copies.proofs.CopyLaws.{room, within, size, copied_on, copied-length}
use Rattle.copies.proofs.copy.Goals as goal

pub loop-i-init : goal.loop-i-init
loop-i-init c = (omega arith, refl)

pub slice_bounds-copy_block-count-in-loop-i : goal.slice_bounds-copy_block-count-in-loop-i
slice_bounds-copy_block-count-in-loop-i c = within _ _ _ _ c.loop-i.invariant.0 c.requires c.loop-i.invariant.1

pub slice_bounds-copy_block-start-in-loop-i : goal.slice_bounds-copy_block-start-in-loop-i
slice_bounds-copy_block-start-in-loop-i c = within _ _ _ _ c.loop-i.invariant.0 c.requires c.loop-i.invariant.1

pub copy_block-requires : goal.copy_block-requires
copy_block-requires c = (omega (arith, size _ _ _ _ c.loop-i.invariant.0 c.requires c.loop-i.invariant.1 (c.loop-i.i + 8192) (omega arith) (omega arith)), room _ _ _ _ c.loop-i.invariant.0 c.requires c.loop-i.invariant.1 _ (omega arith) (omega arith))

pub loop-i-preserved : goal.loop-i-preserved
loop-i-preserved c = (omega arith, copied_on _ _ _ _ c.loop-i.invariant.0 c.requires c.loop-i.invariant.1 _ (omega arith) (omega arith) _ c.copy_block.ensures)

pub slice_bounds-copy_block-count-3 : goal.slice_bounds-copy_block-count-3
slice_bounds-copy_block-count-3 c = within _ _ _ _ c.loop-i.invariant.0 c.requires c.loop-i.invariant.1

pub slice_bounds-copy_block-start-3 : goal.slice_bounds-copy_block-start-3
slice_bounds-copy_block-start-3 c = within _ _ _ _ c.loop-i.invariant.0 c.requires c.loop-i.invariant.1

pub copy_block-requires-2 : goal.copy_block-requires-2
copy_block-requires-2 c = (omega (arith, size _ _ _ _ c.loop-i.invariant.0 c.requires c.loop-i.invariant.1 (length c.args.src.now) (omega arith) (omega arith)), room _ _ _ _ c.loop-i.invariant.0 c.requires c.loop-i.invariant.1 _ (omega arith) (omega arith))

pub shape_of-dst : goal.shape_of-dst
shape_of-dst c = copied-length _ _ _ _ c.loop-i.invariant.0 c.requires c.loop-i.invariant.1 _ (omega arith) (omega arith) _ c.copy_block-2.ensures

pub returns : goal.returns
returns c = record { value = refl; dst_after = copied_on _ _ _ _ c.loop-i.invariant.0 c.requires c.loop-i.invariant.1 _ (omega arith) (omega arith) _ c.copy_block-2.ensures }
