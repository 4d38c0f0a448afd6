use mathlib.Core.Path.{◌≡◌}
use mathlib.Core.List.{◌∷◌}
use Prim.Native.Nat.{◌+◌}
use native.Mathlib.Omega.{arith}
use lib.ListN.{length}
use Rattle.counts.specs.Count.{write_count}
use Rattle.pieces.specs.Content.{content_of, print}
use Rattle.pieces.proofs.PutLaws.{InTwo, back-within, back-room, back-front, back_sum, back-put}
use Rattle.preferred_fields.specs.Field.{print_field, field_with}
use Rattle.preferred_fields.proofs.FieldLaws.{field-length, zone-two}
use Rattle.preferred_fields.proofs.write_zone.Goals as goal
use Rattle.preferred_fields.proofs.write_zone.Goals.{After-size_length-k, After-slice_known-1}

two : (c : goal.After-slice_known-1) → InTwo (print_field (field_with 1 c.args.d.now)) (1 ∷ write_count (length (print (content_of 1 c.args.d.now)))) (print (content_of 1 c.args.d.now)) c.args.out.now
two c = zone-two _ _ c.requires.2

-- the room for ID and size
room : (c : goal.After-size_length-k) → 1 + c.size_length-k.result ≡ length (1 ∷ write_count (length (print (content_of 1 c.args.d.now))))
room c = omega (arith, c.size_length-k.ensures)

pub overflow_add-k : goal.overflow_add-k
overflow_add-k c = omega (arith, back-within (two (goal.at.overflow_add-k c).After-slice_known-1) (room c), c.well_formed)

pub slice_bounds-write_zone-count : goal.slice_bounds-write_zone-count
slice_bounds-write_zone-count c = back-within (two (goal.at.slice_bounds-write_zone-count c).After-slice_known-1) (room c)

pub slice_bounds-write_zone-start : goal.slice_bounds-write_zone-start
slice_bounds-write_zone-start c = back-within (two (goal.at.slice_bounds-write_zone-start c).After-slice_known-1) (room c)

pub write_zone-n-requires : goal.write_zone-n-requires
write_zone-n-requires c = (c.requires.0, back-room (two (goal.at.write_zone-n-requires c).After-slice_known-1) (room (goal.at.write_zone-n-requires c).After-size_length-k))

pub write_head-w-requires : goal.write_head-w-requires
write_head-w-requires c = (
  omega (arith, field-length 1 c.args.d.now, c.requires.1, c.write_zone-n.ensures.size),
  rw c.write_zone-n.ensures.size (back-front (two (goal.at.write_head-w-requires c).After-slice_known-1) (room (goal.at.write_head-w-requires c).After-size_length-k) c.write_zone-n.ensures),
)

pub overflow_add-result : goal.overflow_add-result
overflow_add-result c = omega (arith, back_sum (two (goal.at.overflow_add-result c).After-slice_known-1) (room (goal.at.overflow_add-result c).After-size_length-k) c.write_zone-n.ensures (rw c.write_zone-n.ensures.size at c.write_head-w.ensures), c.well_formed)

pub returns : goal.returns
returns c = back-put (two (goal.at.returns c).After-slice_known-1) (room (goal.at.returns c).After-size_length-k) c.write_zone-n.ensures (rw c.write_zone-n.ensures.size at c.write_head-w.ensures)
