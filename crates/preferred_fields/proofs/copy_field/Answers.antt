use mathlib.Core.List.{◌∷◌, ◌++◌}
use native.Mathlib.Omega.{arith}
use lib.ListN.{length}
use Rattle.counts.specs.Count.{write_count}
use Rattle.pieces.proofs.PutLaws.{InTwo, copied, front-room, front-within, rest-room, both-sum, both-put}
use Rattle.preferred_fields.proofs.FieldLaws.{data-two}
use Rattle.preferred_fields.proofs.copy_field.Goals as goal
use Rattle.preferred_fields.proofs.copy_field.Goals.{After-write_head-arg-1}

two : (c : goal.After-write_head-arg-1) → InTwo (c.args.i ∷ (write_count (length c.args.d.now) ++ c.args.d.now)) (c.args.i ∷ write_count (length c.args.d.now)) c.args.d.now c.args.out.now
two c = data-two _ _ _ _ c.requires.1

pub write_head-w-requires : goal.write_head-w-requires
write_head-w-requires c = (c.requires.0, front-room (two c))

pub slice_bounds-copy-count : goal.slice_bounds-copy-count
slice_bounds-copy-count c = front-within (two (goal.at.slice_bounds-copy-count c).After-write_head-arg-1) c.write_head-w.ensures

pub slice_bounds-copy-start : goal.slice_bounds-copy-start
slice_bounds-copy-start c = front-within (two (goal.at.slice_bounds-copy-start c).After-write_head-arg-1) c.write_head-w.ensures

pub copy-requires : goal.copy-requires
copy-requires c = rest-room (two (goal.at.copy-requires c).After-write_head-arg-1) c.write_head-w.ensures

pub overflow_add-result : goal.overflow_add-result
overflow_add-result c = omega (arith, both-sum (two (goal.at.overflow_add-result c).After-write_head-arg-1) c.write_head-w.ensures (copied _ _ _ _ c.copy.ensures.value c.copy.ensures.dst_after), c.well_formed)

pub returns : goal.returns
returns c = both-put (two (goal.at.returns c).After-write_head-arg-1) c.write_head-w.ensures (copied _ _ _ _ c.copy.ensures.value c.copy.ensures.dst_after)
