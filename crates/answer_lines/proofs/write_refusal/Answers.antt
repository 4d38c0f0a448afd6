use mathlib.Core.List.{List, ◌∷◌, ◌++◌}
use Prim.Native.Nat.{ℕ, ◌≤◌}
use native.Mathlib.Omega.{arith}
use lib.ListN.{length, length-set}
use Rattle.base.proofs.WriteLaws.{no_room}
use Rattle.answer_lines.specs.Decimal.{decimal}
use Rattle.answer_lines.specs.Reply.{refusal_line}
use Rattle.answer_lines.proofs.DecimalLaws.{decimal-short}
use Rattle.answer_lines.proofs.ReplyLaws.{Put, put_first, put-piece, put_byte, put-length, put_all, front_fits, byte_fits, piece-fits, refusal-length}
use Rattle.answer_lines.proofs.write_refusal.Goals as goal
use Rattle.answer_lines.proofs.write_refusal.Goals.{After-put_decimal-arg-1, After-slice_known-1, After-slice_known-2-1, After-slice_known-3-1}

pub overflow_add-room : goal.overflow_add-room
overflow_add-room c = omega (arith, c.decimal_length.ensures, decimal-short c.args.number (omega arith))

pub overflow_add-room-2 : goal.overflow_add-room-2
overflow_add-room-2 c = omega (
  arith,
  c.decimal_length.ensures,
  c.decimal_length-2.ensures,
  decimal-short c.args.number (omega arith),
  decimal-short c.args.place (omega arith),
)

pub returns-then-out-room : goal.returns-then-out-room
returns-then-out-room c = no_room _ _ (rw (refusal-length c.args.number c.args.place)
    (omega (arith, c.decimal_length.ensures, c.decimal_length-2.ensures)))

room : (c : goal.After-put_decimal-arg-1) → length (refusal_line c.args.number c.args.place) ≤ length c.args.out.now
room c =
    rw (refusal-length c.args.number c.args.place)
    (omega (arith, c.decimal_length.ensures, c.decimal_length-2.ensures))

-- what has been put after each call
abbrev front : goal.After-slice_known-1 → List ℕ
front c = decimal c.args.number ++ 32 ∷ decimal c.args.place

first : (c : goal.After-slice_known-2-1) → Put c.args.out.now (decimal c.args.number) c.put_decimal-a.new.out c.put_decimal-a.result
first c = put_first _ _ _ _ c.put_decimal-a.ensures

second : (c : goal.After-slice_known-3-1) → Put c.args.out.now (front (goal.at.bounds-out-b c).After-slice_known-1) c.put_decimal-b.new.out c.put_decimal-b.result
second c = put-piece _ _ _ _ _ _ _ _ (first (goal.at.bounds-out-b c).After-slice_known-2-1) c.put_decimal-b.ensures

pub put_decimal-b-requires : goal.put_decimal-b-requires
unfolding refusal_line
put_decimal-b-requires c = piece-fits _ _ _ _ _ (decimal c.args.place) (first (goal.at.put_decimal-b-requires c).After-slice_known-2-1) (front_fits (front (goal.at.put_decimal-b-requires c).After-slice_known-1) _ _ (room (goal.at.put_decimal-b-requires c).After-put_decimal-arg-1))

pub bounds-out-b : goal.bounds-out-b
unfolding refusal_line
bounds-out-b c = byte_fits _ _ _ _ _ _ (second c) (room (goal.at.bounds-out-b c).After-put_decimal-arg-1)

pub shape_of-out : goal.shape_of-out
shape_of-out c = simp length-set (put-length _ _ _ _ (second c))

pub returns : goal.returns
unfolding refusal_line
returns c = put_all _ _ _ _ (put_byte _ _ _ _ _ (second c)) (room (goal.at.returns c).After-put_decimal-arg-1)
