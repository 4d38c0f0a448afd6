use mathlib.Core.List.{[], ◌∷◌}
use Prim.Native.Nat.{◌-◌}
use native.Mathlib.Omega.{arith}
use lib.ListN.{set}
use Rattle.counts.specs.Count.{write_count}
use Rattle.pieces.specs.View.{Put}
use Rattle.pieces.proofs.PutLaws.{InTwo, put_one, front-within, rest-room, both-sum, both-put, both-length}
use Rattle.closed_fields.proofs.SizeLaws.{head-two}
use Rattle.closed_fields.proofs.write_head.Goals as goal
use Rattle.closed_fields.proofs.write_head.Goals.{After-slice_known-1}

two : (c : goal.After-slice_known-1) → InTwo (c.args.i ∷ write_count c.args.n) (c.args.i ∷ []) (write_count c.args.n) c.args.out.now
two c = head-two _ _ _ c.requires.1

one : (c : goal.After-slice_known-1) → Put (c.args.i ∷ []) c.args.out.now 1 (set c.args.out.now 0 c.args.i)
one c = put_one _ _ (omega (arith, c.requires.1))

pub slice_bounds-write_number-count : goal.slice_bounds-write_number-count
slice_bounds-write_number-count c = front-within (two c) (one c)

pub slice_bounds-write_number-start : goal.slice_bounds-write_number-start
slice_bounds-write_number-start c = front-within (two c) (one c)

pub write_number-requires : goal.write_number-requires
write_number-requires c = (omega (arith, c.requires.0), rest-room (two (goal.at.write_number-requires c).After-slice_known-1) (one (goal.at.write_number-requires c).After-slice_known-1))

pub overflow_add-result : goal.overflow_add-result
overflow_add-result c = omega (arith, both-sum (two (goal.at.overflow_add-result c).After-slice_known-1) (one (goal.at.overflow_add-result c).After-slice_known-1) c.write_number.ensures, c.well_formed)

pub shape_of-out : goal.shape_of-out
shape_of-out c = both-length (two (goal.at.shape_of-out c).After-slice_known-1) (one (goal.at.shape_of-out c).After-slice_known-1) c.write_number.ensures

pub returns : goal.returns
returns c = both-put (two (goal.at.returns c).After-slice_known-1) (one (goal.at.returns c).After-slice_known-1) c.write_number.ensures
