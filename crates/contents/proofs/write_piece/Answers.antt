use mathlib.Core.Path.{◌≡◌, refl, ap}
use mathlib.Core.List.{List, ◌++◌}
use Prim.Native.Nat.{ℕ}
use native.Mathlib.Omega.{arith}
use Rattle.counts.specs.Count.{write_count}
use Rattle.transitions.specs.Transition.{write_moment}
use Rattle.pieces.proofs.PutLaws.{InTwo, put_is, first-room, front-room, front-within, rest-room, sum_room, both-put, copied}
use Rattle.pieces.specs.View.{Put}
use Rattle.pieces.proofs.FormLaws.{form-put, form-refused, moment-form}
use Rattle.contents.proofs.FiveLaws.{hours-many, hours-form, five-room}
use Rattle.contents.proofs.write_piece.Goals as goal
use Rattle.contents.proofs.write_piece.Goals.{After-write_five-arg-1, In-Ok}

-- the transition, then the bytes behind it
two : (c : goal.In-Ok) → InTwo (write_moment c.args.prev c.args.m ++ c.args.s.now) (write_moment c.args.prev c.args.m) c.args.s.now c.args.out.now
two c = record { all = refl; room = c.requires.1 }

put : (c : goal.In-Ok) → Put (write_moment c.args.prev c.args.m) c.args.out.now c.in-Ok.n c.write_moment.new.out
put c = form-put _ _ _ _ _ (moment-form _ _ c.requires.0) (front-room (two c)) c.write_moment.ensures _ c.in-Ok.is

five : (c : goal.After-write_five-arg-1) → write_moment c.args.prev c.args.m ≡ write_count c.hours_to-v.result
five c = hours-form _ _ _ c.if-m-lt-END.true c.hours_to-v.ensures c.if-v-gt0.true

pub write_five-requires : goal.write_five-requires
write_five-requires c = let l = hours-many c.args.prev c.args.m _ c.if-m-lt-END.true c.hours_to-v.ensures c.if-v-gt0.true in
    (l, c.if-v-lt16384.true, c.if-s-eq3.true, five-room _ l c.if-v-lt16384.true c.args.prev c.args.m c.args.s.now c.args.out.now (five c) c.if-s-eq3.true c.requires.1)

pub returns-then-v-lt16384 : goal.returns-then-v-lt16384
returns-then-v-lt16384 c = put_is _ _ _ _ _ c.write_five.ensures (ap (λ (x : List ℕ). x ++ c.args.s.now) (five (goal.at.returns-then-v-lt16384 c).After-write_five-arg-1))

pub slice_bounds-copy-count : goal.slice_bounds-copy-count
slice_bounds-copy-count c = front-within (two c) (put c)

pub slice_bounds-copy-start : goal.slice_bounds-copy-start
slice_bounds-copy-start c = front-within (two c) (put c)

pub copy-requires : goal.copy-requires
copy-requires c = rest-room (two (goal.at.copy-requires c).In-Ok) (put (goal.at.copy-requires c).In-Ok)

pub overflow_add-result : goal.overflow_add-result
overflow_add-result c = omega (arith, sum_room (two (goal.at.overflow_add-result c).In-Ok), (put (goal.at.overflow_add-result c).In-Ok).size, c.copy.ensures.value, c.well_formed)

pub returns-in-Err : goal.returns-in-Err
returns-in-Err c = absurd (form-refused _ _ _ _ _ (moment-form _ _ c.requires.0) (first-room (write_moment c.args.prev c.args.m) _ c.args.out.now c.requires.1) c.write_moment.ensures _ c.in-Err.is)

pub returns-in-Ok : goal.returns-in-Ok
returns-in-Ok c = both-put (two (goal.at.returns-in-Ok c).In-Ok) (put (goal.at.returns-in-Ok c).In-Ok) (copied _ _ _ _ c.copy.ensures.value c.copy.ensures.dst_after)
