use Prim.Native.Nat.{◌-◌}
use native.Mathlib.Omega.{arith}
use Rattle.pieces.proofs.PutLaws.{front-room, front-within, rest-room, both-sum, both-put, both-length}
use Rattle.closed_fields.proofs.SizeLaws.{field-two, data-less}
use Rattle.closed_fields.proofs.write_field.Goals as goal

pub write_head-w-requires : goal.write_head-w-requires
write_head-w-requires c = (rw c.requires.5 (data-less _ _ c.requires.1), front-room (field-two _ _ c.args.out.now _ c.requires.5 c.requires.2))

pub slice_bounds-write_data-count : goal.slice_bounds-write_data-count
slice_bounds-write_data-count c = front-within (field-two _ _ c.args.out.now _ c.requires.5 c.requires.2) c.write_head-w.ensures

pub slice_bounds-write_data-start : goal.slice_bounds-write_data-start
slice_bounds-write_data-start c = front-within (field-two _ _ c.args.out.now _ c.requires.5 c.requires.2) c.write_head-w.ensures

pub write_data-requires : goal.write_data-requires
write_data-requires c = (c.requires.0.few, c.requires.0.small, rest-room (field-two _ _ c.args.out.now _ c.requires.5 c.requires.2) c.write_head-w.ensures, c.requires.3, c.requires.4)

pub overflow_add-result : goal.overflow_add-result
overflow_add-result c = omega (arith, both-sum (field-two _ _ c.args.out.now _ c.requires.5 c.requires.2) c.write_head-w.ensures c.write_data.ensures, c.well_formed)

pub shape_of-out : goal.shape_of-out
shape_of-out c = both-length (field-two _ _ c.args.out.now _ c.requires.5 c.requires.2) c.write_head-w.ensures c.write_data.ensures

pub returns : goal.returns
returns c = both-put (field-two _ _ c.args.out.now _ c.requires.5 c.requires.2) c.write_head-w.ensures c.write_data.ensures
