use Prim.Native.Nat.{ℕ, ◌≤◌}
use mathlib.Core.Path.{◌≡◌}
use mathlib.Core.List.{List, ◌∷◌, ◌++◌}
use native.Mathlib.Omega.{arith}
use lib.ListN.{length, length-set}
use mir.Facts.{to_z-of_z}
use Rattle.base.proofs.WriteLaws.{no_room}
use Rattle.answer_lines.specs.Decimal.{decimal, signed}
use Rattle.answer_lines.specs.Reply.{answer_line}
use Rattle.answer_lines.proofs.ReplyLaws.{Put, put_first, put-piece, put_byte, put-length, put_all, front_fits, byte_fits, piece-fits, answer-length, signed-short}
use Rattle.answer_lines.proofs.write_answer.Goals as goal
use Rattle.answer_lines.proofs.write_answer.Goals.{After-put_decimal-arg-1, After-signed_length, After-signed_length-2, After-signed_length-3, After-slice_known-1, After-slice_known-2-1, After-slice_known-3-1, After-slice_known-4-1, After-slice_known-5-1, After-slice_known-6-1}

-- the lengths of the three numbers
wall-length : (c : goal.After-signed_length) → c.signed_length.result ≡ length (signed c.args.wall)
wall-length c = rw (to_z-of_z c.ranges.wall) at c.signed_length.ensures

savings-length : (c : goal.After-signed_length-2) → c.signed_length-2.result ≡ length (signed c.args.savings)
savings-length c = rw (to_z-of_z c.ranges.savings) at c.signed_length-2.ensures

standard-length : (c : goal.After-signed_length-3) → c.signed_length-3.result ≡ length (signed c.args.standard)
standard-length c = rw (to_z-of_z c.ranges.standard) at c.signed_length-3.ensures

pub overflow_add-room : goal.overflow_add-room
overflow_add-room c = omega (arith, wall-length c, signed-short c.args.wall c.ranges.wall)

pub overflow_add-room-2 : goal.overflow_add-room-2
overflow_add-room-2 c = omega (
  arith,
  wall-length (goal.at.overflow_add-room-2 c).After-signed_length,
  savings-length c,
  signed-short c.args.wall c.ranges.wall,
  signed-short c.args.savings c.ranges.savings,
)

pub overflow_add-room-3 : goal.overflow_add-room-3
overflow_add-room-3 c = omega (
  arith,
  wall-length (goal.at.overflow_add-room-3 c).After-signed_length,
  savings-length (goal.at.overflow_add-room-3 c).After-signed_length-2,
  standard-length c,
  signed-short c.args.wall c.ranges.wall,
  signed-short c.args.savings c.ranges.savings,
  signed-short c.args.standard c.ranges.standard,
)

pub overflow_add-room-4 : goal.overflow_add-room-4
overflow_add-room-4 c = omega (
  arith,
  wall-length (goal.at.overflow_add-room-4 c).After-signed_length,
  savings-length (goal.at.overflow_add-room-4 c).After-signed_length-2,
  standard-length c,
  signed-short c.args.wall c.ranges.wall,
  signed-short c.args.savings c.ranges.savings,
  signed-short c.args.standard c.ranges.standard,
)

pub returns-then-out-room : goal.returns-then-out-room
returns-then-out-room c = no_room _ _ (rw (answer-length c.args.wall c.args.savings c.args.standard c.args.name.now)
    (omega (arith, wall-length (goal.at.returns-then-out-room c).After-signed_length, savings-length (goal.at.returns-then-out-room c).After-signed_length-2, standard-length (goal.at.returns-then-out-room c).After-signed_length-3)))

room : (c : goal.After-put_decimal-arg-1) → length (answer_line c.args.wall c.args.savings c.args.standard c.args.name.now) ≤ length c.args.out.now
room c =
    rw (answer-length c.args.wall c.args.savings c.args.standard c.args.name.now)
    (omega (arith, wall-length (goal.at.put_decimal-a-requires c).After-signed_length, savings-length (goal.at.put_decimal-a-requires c).After-signed_length-2, standard-length (goal.at.put_decimal-a-requires c).After-signed_length-3))

-- what has been put after each call
abbrev to-wall : goal.After-slice_known-1 → List ℕ
to-wall c = decimal 0 ++ 32 ∷ signed c.args.wall

abbrev to-savings : goal.After-slice_known-1 → List ℕ
to-savings c = to-wall c ++ 32 ∷ signed c.args.savings

abbrev to-standard : goal.After-slice_known-1 → List ℕ
to-standard c = to-savings c ++ 32 ∷ signed c.args.standard

abbrev to-name : goal.After-slice_known-1 → List ℕ
to-name c = to-standard c ++ 32 ∷ c.args.name.now

first : (c : goal.After-slice_known-2-1) → Put c.args.out.now (decimal 0) c.put_decimal-a.new.out c.put_decimal-a.result
first c = put_first _ _ _ _ c.put_decimal-a.ensures

second : (c : goal.After-slice_known-3-1) → Put c.args.out.now (to-wall (goal.at.bounds-out-b c).After-slice_known-1) c.put_signed-b.new.out c.put_signed-b.result
second c = put-piece _ _ _ _ _ _ _ _ (first (goal.at.bounds-out-b c).After-slice_known-2-1) (rw (to_z-of_z c.ranges.wall) at c.put_signed-b.ensures)

third : (c : goal.After-slice_known-4-1) → Put c.args.out.now (to-savings (goal.at.bounds-out-c c).After-slice_known-1) c.put_signed-c.new.out c.put_signed-c.result
third c = put-piece _ _ _ _ _ _ _ _ (second (goal.at.bounds-out-c c).After-slice_known-3-1) (rw (to_z-of_z c.ranges.savings) at c.put_signed-c.ensures)

fourth : (c : goal.After-slice_known-5-1) → Put c.args.out.now (to-standard (goal.at.bounds-out-d c).After-slice_known-1) c.put_signed-d.new.out c.put_signed-d.result
fourth c = put-piece _ _ _ _ _ _ _ _ (third (goal.at.bounds-out-d c).After-slice_known-4-1) (rw (to_z-of_z c.ranges.standard) at c.put_signed-d.ensures)

fifth : (c : goal.After-slice_known-6-1) → Put c.args.out.now (to-name (goal.at.bounds-out-e c).After-slice_known-1) c.put_bytes-e.new.out c.put_bytes-e.result
fifth c = put-piece _ _ _ _ _ _ _ _ (fourth (goal.at.bounds-out-e c).After-slice_known-5-1) c.put_bytes-e.ensures

-- and what fits
to-name-fits : (c : goal.After-put_decimal-arg-1) → length (to-name (goal.at.put_decimal-a-requires c).After-slice_known-1) ≤ length c.args.out.now
unfolding answer_line
to-name-fits c = front_fits (to-name (goal.at.put_decimal-a-requires c).After-slice_known-1) _ _ (room c)

to-standard-fits : (c : goal.After-put_decimal-arg-1) → length (to-standard (goal.at.put_decimal-a-requires c).After-slice_known-1) ≤ length c.args.out.now
to-standard-fits c = front_fits (to-standard (goal.at.put_decimal-a-requires c).After-slice_known-1) _ _ (to-name-fits c)

to-savings-fits : (c : goal.After-put_decimal-arg-1) → length (to-savings (goal.at.put_decimal-a-requires c).After-slice_known-1) ≤ length c.args.out.now
to-savings-fits c = front_fits (to-savings (goal.at.put_decimal-a-requires c).After-slice_known-1) _ _ (to-standard-fits c)

to-wall-fits : (c : goal.After-put_decimal-arg-1) → length (to-wall (goal.at.put_decimal-a-requires c).After-slice_known-1) ≤ length c.args.out.now
to-wall-fits c = front_fits (to-wall (goal.at.put_decimal-a-requires c).After-slice_known-1) _ _ (to-savings-fits c)

pub put_decimal-a-requires : goal.put_decimal-a-requires
put_decimal-a-requires c = omega (arith, front_fits (decimal 0) _ _ (to-wall-fits c))

pub bounds-out-a : goal.bounds-out-a
bounds-out-a c = byte_fits _ _ _ _ _ (signed c.args.wall) (first c) (to-wall-fits (goal.at.bounds-out-a c).After-put_decimal-arg-1)

pub overflow_add-a : goal.overflow_add-a
overflow_add-a c = omega (arith, bounds-out-a (goal.at.overflow_add-a c).After-slice_known-2-1, put-length _ _ _ _ (first (goal.at.overflow_add-a c).After-slice_known-2-1))

pub put_signed-b-requires : goal.put_signed-b-requires
put_signed-b-requires c = rw (to_z-of_z c.ranges.wall) (piece-fits _ _ _ _ _ (signed c.args.wall) (first (goal.at.put_signed-b-requires c).After-slice_known-2-1) (to-wall-fits (goal.at.put_signed-b-requires c).After-put_decimal-arg-1))

pub bounds-out-b : goal.bounds-out-b
bounds-out-b c = byte_fits _ _ _ _ _ (signed c.args.savings) (second c) (to-savings-fits (goal.at.bounds-out-b c).After-put_decimal-arg-1)

pub overflow_add-b : goal.overflow_add-b
overflow_add-b c = omega (arith, bounds-out-b (goal.at.overflow_add-b c).After-slice_known-3-1, put-length _ _ _ _ (second (goal.at.overflow_add-b c).After-slice_known-3-1))

pub put_signed-c-requires : goal.put_signed-c-requires
put_signed-c-requires c = rw (to_z-of_z c.ranges.savings) (piece-fits _ _ _ _ _ (signed c.args.savings) (second (goal.at.put_signed-c-requires c).After-slice_known-3-1) (to-savings-fits (goal.at.put_signed-c-requires c).After-put_decimal-arg-1))

pub bounds-out-c : goal.bounds-out-c
bounds-out-c c = byte_fits _ _ _ _ _ (signed c.args.standard) (third c) (to-standard-fits (goal.at.bounds-out-c c).After-put_decimal-arg-1)

pub overflow_add-c : goal.overflow_add-c
overflow_add-c c = omega (arith, bounds-out-c (goal.at.overflow_add-c c).After-slice_known-4-1, put-length _ _ _ _ (third (goal.at.overflow_add-c c).After-slice_known-4-1))

pub put_signed-d-requires : goal.put_signed-d-requires
put_signed-d-requires c = rw (to_z-of_z c.ranges.standard) (piece-fits _ _ _ _ _ (signed c.args.standard) (third (goal.at.put_signed-d-requires c).After-slice_known-4-1) (to-standard-fits (goal.at.put_signed-d-requires c).After-put_decimal-arg-1))

pub bounds-out-d : goal.bounds-out-d
bounds-out-d c = byte_fits _ _ _ _ _ c.args.name.now (fourth c) (to-name-fits (goal.at.bounds-out-d c).After-put_decimal-arg-1)

pub overflow_add-d : goal.overflow_add-d
overflow_add-d c = omega (arith, bounds-out-d (goal.at.overflow_add-d c).After-slice_known-5-1, put-length _ _ _ _ (fourth (goal.at.overflow_add-d c).After-slice_known-5-1))

pub put_bytes-e-requires : goal.put_bytes-e-requires
put_bytes-e-requires c = piece-fits _ _ _ _ _ c.args.name.now (fourth (goal.at.put_bytes-e-requires c).After-slice_known-5-1) (to-name-fits (goal.at.put_bytes-e-requires c).After-put_decimal-arg-1)

pub bounds-out-e : goal.bounds-out-e
unfolding answer_line
bounds-out-e c = byte_fits _ _ _ _ _ _ (fifth c) (room (goal.at.bounds-out-e c).After-put_decimal-arg-1)

pub overflow_add-result : goal.overflow_add-result
overflow_add-result c = omega (arith, bounds-out-e c, put-length _ _ _ _ (fifth c))

pub shape_of-out : goal.shape_of-out
shape_of-out c = simp length-set (put-length _ _ _ _ (fifth c))

pub returns : goal.returns
unfolding answer_line
returns c = put_all _ _ _ _ (put_byte _ _ _ _ _ (fifth c)) (room (goal.at.returns c).After-put_decimal-arg-1)
