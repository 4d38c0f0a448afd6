use mathlib.Core.List.{◌∷◌}
use Prim.Native.Nat.{◌-◌}
use native.Mathlib.Omega.{arith}
use lib.ListN.{take}
use Rattle.frames.specs.Fields.{fields}
use Rattle.closed_files.specs.File.{closed_fields}
use Rattle.pieces.proofs.PutLaws.{InTwo, copied, front-room, front-within, rest-room, both-sum, both-put}
use Rattle.closed_walks.proofs.WriteLaws.{file-two, version-length}
use Rattle.closed_walks.proofs.write_file.Goals as goal
use Rattle.closed_walks.proofs.write_file.Goals.{After-slice_known-1}

two : (c : goal.After-slice_known-1) → InTwo (0 ∷ 0 ∷ 0 ∷ 0 ∷ closed_fields c.args.order.now c.args.table.now (fields c.args.s.now)) (take 4 c.args.s.now) (closed_fields c.args.order.now c.args.table.now (fields c.args.s.now)) c.args.out.now
two c = file-two _ _ _ c.requires.0.walkable c.requires.1

pub slice_bounds-copy-end : goal.slice_bounds-copy-end
slice_bounds-copy-end c = version-length _ c.requires.0.walkable

pub copy-w-requires : goal.copy-w-requires
copy-w-requires c = front-room (two (goal.at.copy-w-requires c).After-slice_known-1)

pub slice_bounds-write_fields-count : goal.slice_bounds-write_fields-count
slice_bounds-write_fields-count c = front-within (two (goal.at.slice_bounds-write_fields-count c).After-slice_known-1) (copied _ _ _ _ c.copy-w.ensures.value c.copy-w.ensures.dst_after)

pub slice_bounds-write_fields-start : goal.slice_bounds-write_fields-start
slice_bounds-write_fields-start c = front-within (two (goal.at.slice_bounds-write_fields-start c).After-slice_known-1) (copied _ _ _ _ c.copy-w.ensures.value c.copy-w.ensures.dst_after)

pub write_fields-requires : goal.write_fields-requires
write_fields-requires c = (c.requires.0, rest-room (two (goal.at.write_fields-requires c).After-slice_known-1) (copied _ _ _ _ c.copy-w.ensures.value c.copy-w.ensures.dst_after), c.requires.2)

pub overflow_add-result : goal.overflow_add-result
overflow_add-result c = omega (arith, both-sum (two (goal.at.overflow_add-result c).After-slice_known-1) (copied _ _ _ _ c.copy-w.ensures.value c.copy-w.ensures.dst_after) c.write_fields.ensures, c.well_formed)

pub returns : goal.returns
returns c = both-put (two (goal.at.returns c).After-slice_known-1) (copied _ _ _ _ c.copy-w.ensures.value c.copy-w.ensures.dst_after) c.write_fields.ensures
