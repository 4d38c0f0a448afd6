use mathlib.Core.List.{[], ◌∷◌}
use Prim.Native.Nat.{◌-◌}
use native.Mathlib.Omega.{arith}
use lib.ListN.{length, set, take, drop}
use Rattle.counts.specs.Count.{write_count}
use Rattle.pieces.specs.View.{Put}
use Rattle.pieces.proofs.PutLaws.{InTwo, put_one, front-within, rest-room, both-put, both-length}
use Rattle.pieces.proofs.FormLaws.{form-put, form-refused, count-form}
use Rattle.preferred_fields.proofs.FieldLaws.{head-two}
use Rattle.preferred_fields.proofs.write_head.Goals as goal
use Rattle.preferred_fields.proofs.write_head.Goals.{After-slice_known-1, In-Ok, In-Err}

two : (c : goal.After-slice_known-1) → InTwo (c.args.i ∷ write_count c.args.n) (c.args.i ∷ []) (write_count c.args.n) c.args.out.now
two c = head-two _ _ _ c.requires.1

-- the ID, then the size
one : (c : goal.After-slice_known-1) → Put (c.args.i ∷ []) c.args.out.now 1 (set c.args.out.now 0 c.args.i)
one c = put_one _ _ (omega (arith, c.requires.1))

count : (c : goal.In-Ok) → Put (write_count c.args.n) (take (length (set c.args.out.now 0 c.args.i) - 1) (drop 1 (set c.args.out.now 0 c.args.i))) c.in-Ok.k c.write_count.new.out
count c = form-put _ _ _ _ _ (count-form _ (omega (arith, c.requires.0))) (rest-room (two (goal.at.overflow_add-result c).After-slice_known-1) (one (goal.at.overflow_add-result c).After-slice_known-1)) c.write_count.ensures _ c.in-Ok.is

refused : (c : goal.In-Err) → ⊥
refused c = form-refused _ _ _ _ _ (count-form c.args.n (omega (arith, c.requires.0))) (rest-room (two (goal.at.shape_of-out-in-Err c).After-slice_known-1) (one (goal.at.shape_of-out-in-Err c).After-slice_known-1)) c.write_count.ensures _ c.in-Err.is

pub slice_bounds-write_count-count : goal.slice_bounds-write_count-count
slice_bounds-write_count-count c = front-within (two c) (one c)

pub slice_bounds-write_count-start : goal.slice_bounds-write_count-start
slice_bounds-write_count-start c = front-within (two c) (one c)

pub overflow_add-result : goal.overflow_add-result
overflow_add-result c = omega (arith, (count c).size, c.requires.1, rest-room (two (goal.at.overflow_add-result c).After-slice_known-1) (one (goal.at.overflow_add-result c).After-slice_known-1))

pub shape_of-out-in-Err : goal.shape_of-out-in-Err
shape_of-out-in-Err c = absurd (refused c)

pub returns-in-Err : goal.returns-in-Err
returns-in-Err c = absurd (refused c)

pub shape_of-out-in-Ok : goal.shape_of-out-in-Ok
shape_of-out-in-Ok c = both-length (two (goal.at.shape_of-out-in-Ok c).After-slice_known-1) (one (goal.at.shape_of-out-in-Ok c).After-slice_known-1) (count c)

pub returns-in-Ok : goal.returns-in-Ok
returns-in-Ok c = both-put (two (goal.at.returns-in-Ok c).After-slice_known-1) (one (goal.at.returns-in-Ok c).After-slice_known-1) (count c)
