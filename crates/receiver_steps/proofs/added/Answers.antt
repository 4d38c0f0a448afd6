use native.Mathlib.Omega.{arith}
use Rattle.receivers.proofs.PieceLaws.{refused, taken, held-length}
use Rattle.receiver_steps.proofs.added.Goals as goal

pub returns-then-room-held : goal.returns-then-room-held
returns-then-room-held c = refused _ _ _ (omega arith)

pub returns-then-room-held-2 : goal.returns-then-room-held-2
returns-then-room-held-2 c = refused _ _ _ (omega arith)

pub slice_bounds-onward-end-2 : goal.slice_bounds-onward-end-2
slice_bounds-onward-end-2 c = held-length c.args.r c.args.buffer.now c.args.piece.now (omega arith) _ _ c.copy.ensures.value c.copy.ensures.dst_after

pub returns : goal.returns
returns c = taken c.args.r c.args.buffer.now c.args.piece.now (omega arith) _ _ c.copy.ensures.value c.copy.ensures.dst_after _ c.onward-c.ensures
