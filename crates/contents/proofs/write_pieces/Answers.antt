use mathlib.Core.Path.{ap}
use mathlib.Core.List.{[], ◌++◌}
use Prim.Native.Nat.{◌-◌}
use native.Mathlib.Omega.{arith}
use Rattle.base.specs.Moment.{end_of_time}
use Rattle.places.specs.Placed.{of_read}
use Rattle.places.proofs.PlaceLaws.{stands-is, then-in}
use Rattle.pieces.specs.Content.{print_pieces}
use Rattle.pieces.specs.View.{PieceAt, pieces_at}
use Rattle.pieces.proofs.PutLaws.{InTwo, put-none, put_is, put-length, front-within, rest-room, both-sum, both-put}
use Rattle.pieces.proofs.GoingLaws.{Going, printed, going_start, going-bad, going-piece, going_next, going_done, going-two, going-moment, going-sum}
use Rattle.contents.proofs.write_pieces.Goals as goal
use Rattle.contents.proofs.write_pieces.Goals.{After-piece_end-e}

-- the piece that was read
piece : (c : goal.After-piece_end-e) → PieceAt c.args.s.now (c.loop-left.left - 1) c.loop-left.prev c.loop-left.place c.in-Ok.m c.in-Ok.a c.piece_end-e.result
piece c =
    going-piece _ _ c.loop-left.place _ _ _ _ _ _ c.loop-left.invariant.1 (omega arith)
    (stands-is c.moment_at-item.ensures (ap of_read c.in-Ok.is)) c.piece_end-e.ensures

next : (c : goal.After-piece_end-e) → Going c.args.s.now (c.loop-left.left - 1) c.piece_end-e.result c.in-Ok.m (print_pieces end_of_time (pieces_at c.args.s.now c.args.n c.args.at)) (c.loop-left.invariant.0 ++ printed c.args.s.now c.loop-left.prev c.in-Ok.m c.in-Ok.a c.piece_end-e.result)
next c = going_next _ _ c.loop-left.place _ _ _ _ _ _ c.loop-left.invariant.1 (omega arith) (piece c)

two : (c : goal.After-piece_end-e)
    → InTwo (c.loop-left.invariant.0 ++ printed c.args.s.now c.loop-left.prev c.in-Ok.m c.in-Ok.a c.piece_end-e.result) c.loop-left.invariant.0 (printed c.args.s.now c.loop-left.prev c.in-Ok.m c.in-Ok.a c.piece_end-e.result) c.args.out.now
two c = going-two _ _ c.loop-left.place _ _ _ _ _ _ c.loop-left.invariant.1 (omega arith) (piece c) _ c.requires.1

pub loop-left-init : goal.loop-left-init
loop-left-init c = ([], going_start _ _ _ c.requires.0, put-none _)

pub moment_at-item-requires : goal.moment_at-item-requires
moment_at-item-requires c = c.loop-left.invariant.1.within

pub shape_of-out-in-Err : goal.shape_of-out-in-Err
shape_of-out-in-Err c = put-length c.loop-left.invariant.2 (omega (arith, going-sum _ _ c.loop-left.place _ _ _ c.loop-left.invariant.1, c.requires.1))

pub returns-in-Err : goal.returns-in-Err
returns-in-Err c = absurd (going-bad _ _ c.loop-left.place _ _ _ _ c.loop-left.invariant.1 (omega arith) (stands-is c.moment_at-item.ensures (ap of_read c.in-Err.is)))

pub piece_end-e-requires : goal.piece_end-e-requires
piece_end-e-requires c = then-in c.moment_at-item.ensures _ _ (ap of_read c.in-Ok.is)

pub slice_bounds-write_piece-count : goal.slice_bounds-write_piece-count
slice_bounds-write_piece-count c = (piece c).first

pub slice_bounds-write_piece-start : goal.slice_bounds-write_piece-start
slice_bounds-write_piece-start c = (piece c).first

pub slice_bounds-write_piece-end : goal.slice_bounds-write_piece-end
slice_bounds-write_piece-end c = (piece c).last

pub slice_bounds-write_piece-count-in-Ok : goal.slice_bounds-write_piece-count-in-Ok
slice_bounds-write_piece-count-in-Ok c = front-within (two (goal.at.slice_bounds-write_piece-count-in-Ok c).After-piece_end-e) c.loop-left.invariant.2

pub slice_bounds-write_piece-start-in-Ok : goal.slice_bounds-write_piece-start-in-Ok
slice_bounds-write_piece-start-in-Ok c = front-within (two (goal.at.slice_bounds-write_piece-start-in-Ok c).After-piece_end-e) c.loop-left.invariant.2

pub write_piece-w-requires : goal.write_piece-w-requires
write_piece-w-requires c = (
  going-moment _ _ c.loop-left.place _ _ _ _ _ _ c.loop-left.invariant.1 (omega arith) (piece (goal.at.write_piece-w-requires c).After-piece_end-e),
  rest-room (two (goal.at.write_piece-w-requires c).After-piece_end-e) c.loop-left.invariant.2,
)

pub overflow_add-w : goal.overflow_add-w
overflow_add-w c = omega (arith, both-sum (two (goal.at.overflow_add-w c).After-piece_end-e) c.loop-left.invariant.2 c.write_piece-w.ensures, c.well_formed)

pub loop-left-preserved : goal.loop-left-preserved
loop-left-preserved c = (_, next (goal.at.loop-left-preserved c).After-piece_end-e, both-put (two (goal.at.loop-left-preserved c).After-piece_end-e) c.loop-left.invariant.2 c.write_piece-w.ensures)

pub shape_of-out : goal.shape_of-out
shape_of-out c = put-length c.loop-left.invariant.2 (omega (arith, going-sum _ _ c.loop-left.place _ _ _ c.loop-left.invariant.1, c.requires.1))

pub returns : goal.returns
returns c = put_is _ _ _ _ _ c.loop-left.invariant.2 (going_done _ _ c.loop-left.place _ _ _ c.loop-left.invariant.1 (omega arith))
