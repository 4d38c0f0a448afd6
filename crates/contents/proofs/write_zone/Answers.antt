use mathlib.Core.Path.{ap, sym}
use native.Mathlib.Omega.{arith}
use lib.ListN.{take}
use Rattle.base.specs.Moment.{end_of_time}
use Rattle.places.specs.Placed.{of_read, at, Stands}
use Rattle.places.proofs.PlaceLaws.{stands-is}
use Rattle.pieces.specs.Content.{parse_head, print_pieces, content_of, print}
use Rattle.pieces.specs.View.{pieces_at, Put}
use Rattle.pieces.proofs.PutLaws.{InTwo, copied, front-room, front-within, rest-room, both-sum, both-put}
use Rattle.pieces.proofs.HeadLaws.{head-good, head-pieces, head-length, head-two}
use Rattle.contents.proofs.write_zone.Goals as goal
use Rattle.contents.proofs.write_zone.Goals.{After-slice_known-in-Ok-1, In-Ok}

-- what was read of the head
head : (c : goal.In-Ok) → Stands c.args.s.now (parse_head c.args.s.now) (at c.in-Ok.n c.in-Ok.a)
head c = stands-is c.read_head.ensures (ap of_read c.in-Ok.is)

two : (c : goal.In-Ok) → InTwo (print (content_of 1 c.args.s.now)) (take c.in-Ok.a c.args.s.now) (print_pieces end_of_time (pieces_at c.args.s.now c.in-Ok.n c.in-Ok.a)) c.args.out.now
two c = head-two _ c.requires.0 _ _ (head c) _ c.requires.1

copies : (c : goal.After-slice_known-in-Ok-1) → Put (take c.in-Ok.a c.args.s.now) c.args.out.now c.copy-k.result c.copy-k.new.dst
copies c = copied _ _ _ _ c.copy-k.ensures.value c.copy-k.ensures.dst_after

pub slice_bounds-copy-end : goal.slice_bounds-copy-end
slice_bounds-copy-end c = sym (head-length _ c.requires.0 _ _ (head c))

pub copy-k-requires : goal.copy-k-requires
copy-k-requires c = front-room (two (goal.at.copy-k-requires c).In-Ok)

pub slice_bounds-write_pieces-count : goal.slice_bounds-write_pieces-count
slice_bounds-write_pieces-count c = front-within (two (goal.at.slice_bounds-write_pieces-count c).In-Ok) (copies c)

pub slice_bounds-write_pieces-start : goal.slice_bounds-write_pieces-start
slice_bounds-write_pieces-start c = front-within (two (goal.at.slice_bounds-write_pieces-start c).In-Ok) (copies c)

pub write_pieces-requires : goal.write_pieces-requires
write_pieces-requires c = (head-pieces _ c.requires.0 _ _ (head (goal.at.write_pieces-requires c).In-Ok), rest-room (two (goal.at.write_pieces-requires c).In-Ok) (copies (goal.at.write_pieces-requires c).After-slice_known-in-Ok-1))

pub overflow_add-result : goal.overflow_add-result
overflow_add-result c = omega (arith, both-sum (two (goal.at.overflow_add-result c).In-Ok) (copies (goal.at.overflow_add-result c).After-slice_known-in-Ok-1) c.write_pieces.ensures, c.well_formed)

pub returns-in-Err : goal.returns-in-Err
returns-in-Err c = absurd (head-good _ c.requires.0 _ (stands-is c.read_head.ensures (ap of_read c.in-Err.is)))

pub returns-in-Ok : goal.returns-in-Ok
returns-in-Ok c = both-put (two (goal.at.returns-in-Ok c).In-Ok) (copies (goal.at.returns-in-Ok c).After-slice_known-in-Ok-1) c.write_pieces.ensures
