use mathlib.Core.Path.{refl, sym}
use Prim.Native.Nat.{◌-◌}
use native.Mathlib.Omega.{arith}
use Rattle.pieces.proofs.PutLaws.{put_is}
use Rattle.sorting.proofs.PartLaws.{prefix-length}
use Rattle.closing.proofs.CloseLaws.{uses-few, order-within, order-few, file-is, length-is, small_is, keeps, too_large, no_room, written}
use Rattle.closing.proofs.close_counted.Goals as goal

pub ordered-n-requires : goal.ordered-n-requires
ordered-n-requires c = record { uses_len_bound = uses-few _ _ c.requires.2; order_len = refl; room_len = refl }

pub slice_bounds-order-end : goal.slice_bounds-order-end
slice_bounds-order-end c = omega (arith, (order-within _ _ _ _ c.ordered-n.ensures))

pub slice_bounds-number-end : goal.slice_bounds-number-end
slice_bounds-number-end c = prefix-length _ _ (order-within _ _ _ _ c.ordered-n.ensures)

pub number-requires : goal.number-requires
number-requires c = (order-few _ _ _ _ c.ordered-n.ensures (omega arith))

pub slice_bounds-order-end-2 : goal.slice_bounds-order-end-2
slice_bounds-order-end-2 c = omega (arith, (order-within _ _ _ _ c.ordered-n.ensures))

pub slice_bounds-in_place-end : goal.slice_bounds-in_place-end
slice_bounds-in_place-end c = prefix-length _ _ (order-within _ _ _ _ c.ordered-n.ensures)

pub slice_bounds-order-end-3 : goal.slice_bounds-order-end-3
slice_bounds-order-end-3 c = omega (arith, (order-within _ _ _ _ c.ordered-n.ensures))

pub slice_bounds-total-end : goal.slice_bounds-total-end
slice_bounds-total-end c = prefix-length _ _ (order-within _ _ _ _ c.ordered-n.ensures)

pub total-size-requires : goal.total-size-requires
total-size-requires c = (c.requires.0, (order-few _ _ _ _ c.ordered-n.ensures (omega arith)), keeps _ _ _ _ _ _ c.requires.2 c.ordered-n.ensures c.number.ensures _ c.requires.1 c.in_place-kept.ensures)

pub returns-then-size-gt4194304 : goal.returns-then-size-gt4194304
returns-then-size-gt4194304 c = too_large _ _ (omega (arith, length-is _ _ _ _ _ _ c.requires.2 c.ordered-n.ensures c.number.ensures _ c.total-size.ensures.0, c.if-size-gt4194304.true))

pub returns-then-out-size : goal.returns-then-out-size
returns-then-out-size c = no_room _ _ (omega (arith, length-is _ _ _ _ _ _ c.requires.2 c.ordered-n.ensures c.number.ensures _ c.total-size.ensures.0, c.if-size-gt4194304.false)) (omega (arith, length-is _ _ _ _ _ _ c.requires.2 c.ordered-n.ensures c.number.ensures _ c.total-size.ensures.0, c.if-out-size.true))

pub slice_bounds-order-end-4 : goal.slice_bounds-order-end-4
slice_bounds-order-end-4 c = omega (arith, (order-within _ _ _ _ c.ordered-n.ensures))

pub slice_bounds-write_file-end : goal.slice_bounds-write_file-end
slice_bounds-write_file-end c = prefix-length _ _ (order-within _ _ _ _ c.ordered-n.ensures)

pub write_file-requires : goal.write_file-requires
write_file-requires c = (record { walkable = c.requires.0; few = (order-few _ _ _ _ c.ordered-n.ensures (omega arith)); small = small_is _ _ _ _ _ _ c.requires.2 c.ordered-n.ensures c.number.ensures (order-few _ _ _ _ c.ordered-n.ensures (omega arith)); total = omega (arith, c.total-size.ensures.0, c.if-size-gt4194304.false); keeps = keeps _ _ _ _ _ _ c.requires.2 c.ordered-n.ensures c.number.ensures _ c.requires.1 c.in_place-kept.ensures }, omega (arith, c.total-size.ensures.0, c.if-out-size.false), c.total-size.ensures.1)

pub returns : goal.returns
returns c = written _ _ (omega (arith, length-is _ _ _ _ _ _ c.requires.2 c.ordered-n.ensures c.number.ensures _ c.total-size.ensures.0, c.if-size-gt4194304.false)) _ _ (omega (arith, length-is _ _ _ _ _ _ c.requires.2 c.ordered-n.ensures c.number.ensures _ c.total-size.ensures.0, c.if-out-size.false)) (put_is _ _ _ _ _ c.write_file.ensures (sym (file-is _ _ _ _ _ _ c.requires.2 c.ordered-n.ensures c.number.ensures)))
