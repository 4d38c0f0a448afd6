use mathlib.Core.Path.{◌≡◌, refl, sym, ap, ◌∙◌}
use mathlib.Core.List.{[], ◌++◌}
use Prim.Native.Nat.{ℕ, ◌+◌, ◌-◌, ◌≤◌}
use native.Mathlib.Omega.{arith}
use lib.ListN.{length, length-append}
use Rattle.base.specs.Moment.{end_of_time}
use Rattle.base.proofs.Parts.{Bytes}
use Rattle.transitions.specs.Transition.{write_moment}
use Rattle.places.specs.Placed.{of_read}
use Rattle.places.proofs.PlaceLaws.{stands-is, then-in}
use Rattle.pieces.specs.Content.{print_pieces}
use Rattle.pieces.specs.View.{PieceAt, pieces_at}
use Rattle.pieces.proofs.GoingLaws.{Going, printed, at-start, going_start, going-bad, going-piece, going_next, going_done, going-forward, going-short, going-sum, printed-length}
use Rattle.contents.proofs.pieces_size.Goals as goal
use Rattle.contents.proofs.pieces_size.Goals.{After-piece_end-e, After-shared_slice_known-1}

bytes : (c : goal.After-shared_slice_known-1) → Bytes c.args.s.now
bytes c i = omega (arith, c.shared_slice_known-1.given i)

-- the piece that was read
piece : (c : goal.After-piece_end-e) → PieceAt c.args.s.now (c.loop-left.left - 1) c.loop-left.prev c.loop-left.place c.in-Ok.m c.in-Ok.a c.piece_end-e.result
piece c =
    going-piece _ _ c.loop-left.place _ _ _ _ _ _ c.loop-left.invariant.1 (omega arith)
    (stands-is c.moment_at-item.ensures (ap of_read c.in-Ok.is)) c.piece_end-e.ensures

next : (c : goal.After-piece_end-e) → Going c.args.s.now (c.loop-left.left - 1) c.piece_end-e.result c.in-Ok.m (print_pieces end_of_time (pieces_at c.args.s.now c.args.n c.args.at)) (c.loop-left.invariant.0 ++ printed c.args.s.now c.loop-left.prev c.in-Ok.m c.in-Ok.a c.piece_end-e.result)
next c = going_next _ _ c.loop-left.place _ _ _ _ _ _ c.loop-left.invariant.1 (omega arith) (piece c)

sum : (c : goal.After-piece_end-e) (k : ℕ) → k ≡ length (write_moment c.loop-left.prev c.in-Ok.m)
    → c.loop-left.size + (k + (c.piece_end-e.result - c.in-Ok.a)) ≡ length (c.loop-left.invariant.0 ++ printed c.args.s.now c.loop-left.prev c.in-Ok.m c.in-Ok.a c.piece_end-e.result)
sum c k h = rw (length-append, printed-length _ _ c.loop-left.place _ _ _ _ _ _ c.loop-left.invariant.1 (omega arith) (piece c), ← h, c.loop-left.invariant.2)

most : (c : goal.After-piece_end-e) (k : ℕ) → k ≡ length (write_moment c.loop-left.prev c.in-Ok.m)
    → c.loop-left.size + (k + (c.piece_end-e.result - c.in-Ok.a)) ≤ length c.args.s.now
most c k h =
    let l : length (print_pieces end_of_time (pieces_at c.args.s.now c.args.n c.args.at)) ≤ length c.args.s.now =
    rw (ap (print_pieces end_of_time) (at-start _ _ _ c.requires)) c.requires.shorter in
    let g = going-sum _ _ c.piece_end-e.result _ _ _ (next c) in
    omega (arith, sum c k h)

pub loop-left-init : goal.loop-left-init
loop-left-init c = ([], going_start _ _ _ c.requires, refl)

pub moment_at-item-requires : goal.moment_at-item-requires
moment_at-item-requires c = c.loop-left.invariant.1.within

pub returns-in-Err : goal.returns-in-Err
returns-in-Err c = absurd (going-bad _ _ c.loop-left.place _ _ _ _ c.loop-left.invariant.1 (omega arith) (stands-is c.moment_at-item.ensures (ap of_read c.in-Err.is)))

pub piece_end-e-requires : goal.piece_end-e-requires
piece_end-e-requires c = then-in c.moment_at-item.ensures _ _ (ap of_read c.in-Ok.is)

pub overflow_sub-a : goal.overflow_sub-a
overflow_sub-a c = going-forward _ _ c.loop-left.place _ _ _ _ _ _ c.loop-left.invariant.1 (omega arith) (piece c)

pub code_size-requires : goal.code_size-requires
code_size-requires c = going-short _ _ c.loop-left.place _ _ _ _ _ _ c.loop-left.invariant.1 (omega arith) (piece c) (bytes (goal.at.code_size-requires c).After-shared_slice_known-1)

pub overflow_sub-size : goal.overflow_sub-size
overflow_sub-size c = (piece (goal.at.overflow_sub-size c).After-piece_end-e).first

pub overflow_add-size : goal.overflow_add-size
overflow_add-size c = omega (arith, most (goal.at.overflow_add-size c).After-piece_end-e _ c.code_size.ensures, c.well_formed)

pub overflow_add-size-in-Ok : goal.overflow_add-size-in-Ok
overflow_add-size-in-Ok c = omega (arith, most (goal.at.overflow_add-size-in-Ok c).After-piece_end-e _ c.code_size.ensures, c.well_formed)

pub loop-left-preserved : goal.loop-left-preserved
loop-left-preserved c = (_, next (goal.at.loop-left-preserved c).After-piece_end-e, sum (goal.at.loop-left-preserved c).After-piece_end-e _ c.code_size.ensures)

pub returns : goal.returns
returns c = c.loop-left.invariant.2 ∙ ap length (sym (going_done _ _ c.loop-left.place _ _ _ c.loop-left.invariant.1 (omega arith)))
