use mathlib.Core.List.{[], ◌++◌}
use Prim.Native.Nat.{◌+◌, ◌-◌}
use native.Mathlib.Omega.{arith}
use lib.ListN.{length, take, drop}
use Rattle.base.proofs.Parts.{Bytes}
use Rattle.pieces.proofs.PutLaws.{InTwo, put-none, put_is, copied, front-within, rest-room, both-sum, both-put, both-length}
use Rattle.preferred_fields.specs.Field.{print_field, field_with}
use Rattle.sizes.specs.View.{part_of}
use Rattle.rewrite.proofs.OutcomeLaws.{file-length}
use Rattle.preferred_walks.proofs.ReadyLaws.{walking_start, walking-done, walking-nil, walking-sum, Turn, walking-turn, turn_two, turn-sum, pending-start, pending-none, pending-two, pending-last, pending_next, walking-over, empty-next, empty-over}
use Rattle.preferred_walks.proofs.write_fields.Goals as goal
use Rattle.preferred_walks.proofs.write_fields.Goals.{After-loop-at, After-read_field-f, After-slice_known-1}

bytes : (c : goal.After-slice_known-1) → Bytes c.args.s.now
bytes c i = omega (arith, c.shared_slice_known-1.given i)

-- the field that was read
turn : (c : goal.After-read_field-f) → Turn c.args.s.now c.args.flags.now c.loop-at.at (c.loop-at.invariant.0 ++ c.loop-at.invariant.1) c.read_field-f.result
turn c = walking-turn _ _ _ _ _ c.loop-at.invariant.2 (omega arith) c.read_field-f.ensures

two : (c : goal.After-read_field-f) → InTwo ((c.loop-at.invariant.0 ++ c.loop-at.invariant.1) ++ print_field (field_with c.read_field-f.result.id (part_of c.args.s.now c.read_field-f.result))) (c.loop-at.invariant.0 ++ c.loop-at.invariant.1) (print_field (field_with c.read_field-f.result.id (part_of c.args.s.now c.read_field-f.result))) c.args.out.now
two c = turn_two (turn c) _ c.requires.1

-- the fields before it that stay as they are
held : (c : goal.After-read_field-f) → InTwo (c.loop-at.invariant.0 ++ c.loop-at.invariant.1) c.loop-at.invariant.0 (take (c.loop-at.at - c.loop-at.from) (drop c.loop-at.from c.args.s.now)) c.args.out.now
held c = pending-two c.loop-at.invariant.3 _ _ (omega (arith, walking-sum _ _ _ _ c.loop-at.invariant.2, c.requires.1))

last : (c : goal.After-loop-at) → InTwo (c.loop-at.invariant.0 ++ c.loop-at.invariant.1) c.loop-at.invariant.0 (take (length c.args.s.now - c.loop-at.from) (drop c.loop-at.from c.args.s.now)) c.args.out.now
last c = pending-last c.loop-at.invariant.3 _ _ (omega (arith, walking-sum _ _ _ _ c.loop-at.invariant.2, c.requires.1)) (omega arith)

pub loop-at-init : goal.loop-at-init
loop-at-init c = ([], [], walking_start _ _ c.requires.0, pending-start _ _ c.requires.0, put-none _)

pub is_empty-requires : goal.is_empty-requires
is_empty-requires c = c.loop-at.invariant.3.within

pub overflow_add-at : goal.overflow_add-at
overflow_add-at c = omega (arith, c.is_empty.ensures.inside c.if-is_empty.true)

pub loop-at-smaller-then-is_empty : goal.loop-at-smaller-then-is_empty
loop-at-smaller-then-is_empty c = omega (arith, c.is_empty.ensures.inside c.if-is_empty.true)

pub loop-at-preserved-then-is_empty : goal.loop-at-preserved-then-is_empty
loop-at-preserved-then-is_empty c = (_, _, empty-over c.loop-at.invariant.3 c.args.flags.now c.loop-at.invariant.0 (bytes (goal.at.loop-at-preserved-then-is_empty c).After-slice_known-1) c.loop-at.invariant.2 _ c.is_empty.ensures c.if-is_empty.true, empty-next c.loop-at.invariant.3 c.args.flags.now c.loop-at.invariant.0 (bytes (goal.at.loop-at-preserved-then-is_empty c).After-slice_known-1) c.loop-at.invariant.2 _ c.is_empty.ensures c.if-is_empty.true, c.loop-at.invariant.4)

pub overflow_sub-a : goal.overflow_sub-a
overflow_sub-a c = omega (arith, (turn c).ahead)

pub slice_bounds-is_unchanged-count : goal.slice_bounds-is_unchanged-count
slice_bounds-is_unchanged-count c = (turn c).ordered

pub slice_bounds-is_unchanged-start : goal.slice_bounds-is_unchanged-start
slice_bounds-is_unchanged-start c = (turn c).ordered

pub slice_bounds-is_unchanged-end : goal.slice_bounds-is_unchanged-end
slice_bounds-is_unchanged-end c = (turn c).within

pub is_unchanged-requires : goal.is_unchanged-requires
is_unchanged-requires c = (turn (goal.at.is_unchanged-requires c).After-read_field-f).readable

pub loop-at-smaller-then-is_unchanged : goal.loop-at-smaller-then-is_unchanged
loop-at-smaller-then-is_unchanged c = omega (arith, (turn (goal.at.loop-at-smaller-then-is_unchanged c).After-read_field-f).farther, (turn (goal.at.loop-at-smaller-then-is_unchanged c).After-read_field-f).within)

pub loop-at-preserved-then-is_unchanged : goal.loop-at-preserved-then-is_unchanged
loop-at-preserved-then-is_unchanged c = (_, _, walking-over c.loop-at.invariant.3 c.args.flags.now c.loop-at.invariant.0 _ (bytes (goal.at.loop-at-preserved-then-is_unchanged c).After-slice_known-1) c.loop-at.invariant.2 c.loop-at-test.true c.read_field-f.ensures _ c.is_unchanged.ensures c.if-is_unchanged.true, pending_next c.loop-at.invariant.3 c.args.flags.now c.loop-at.invariant.0 _ (bytes (goal.at.loop-at-preserved-then-is_unchanged c).After-slice_known-1) c.loop-at.invariant.2 c.loop-at-test.true c.read_field-f.ensures _ c.is_unchanged.ensures c.if-is_unchanged.true, c.loop-at.invariant.4)

pub slice_bounds-copy-count : goal.slice_bounds-copy-count
slice_bounds-copy-count c = c.loop-at.invariant.3.order

pub slice_bounds-copy-start : goal.slice_bounds-copy-start
slice_bounds-copy-start c = c.loop-at.invariant.3.order

pub slice_bounds-copy-end : goal.slice_bounds-copy-end
slice_bounds-copy-end c = c.loop-at.invariant.3.within

pub slice_bounds-copy-count-else-is_unchanged : goal.slice_bounds-copy-count-else-is_unchanged
slice_bounds-copy-count-else-is_unchanged c = front-within (held (goal.at.slice_bounds-copy-count-else-is_unchanged c).After-read_field-f) c.loop-at.invariant.4

pub slice_bounds-copy-start-else-is_unchanged : goal.slice_bounds-copy-start-else-is_unchanged
slice_bounds-copy-start-else-is_unchanged c = front-within (held (goal.at.slice_bounds-copy-start-else-is_unchanged c).After-read_field-f) c.loop-at.invariant.4

pub copy-w-requires : goal.copy-w-requires
copy-w-requires c = rest-room (held (goal.at.copy-w-requires c).After-read_field-f) c.loop-at.invariant.4

pub overflow_add-w : goal.overflow_add-w
overflow_add-w c = omega (arith, both-sum (held (goal.at.overflow_add-w c).After-read_field-f) c.loop-at.invariant.4 (copied _ _ _ _ c.copy-w.ensures.value c.copy-w.ensures.dst_after), c.well_formed)

pub slice_bounds-write_field-count : goal.slice_bounds-write_field-count
slice_bounds-write_field-count c = (turn (goal.at.slice_bounds-write_field-count c).After-read_field-f).ordered

pub slice_bounds-write_field-start : goal.slice_bounds-write_field-start
slice_bounds-write_field-start c = (turn (goal.at.slice_bounds-write_field-start c).After-read_field-f).ordered

pub slice_bounds-write_field-end : goal.slice_bounds-write_field-end
slice_bounds-write_field-end c = (turn (goal.at.slice_bounds-write_field-end c).After-read_field-f).within

pub slice_bounds-write_field-count-else-is_unchanged : goal.slice_bounds-write_field-count-else-is_unchanged
slice_bounds-write_field-count-else-is_unchanged c = front-within (two (goal.at.slice_bounds-write_field-count-else-is_unchanged c).After-read_field-f) (both-put (held (goal.at.slice_bounds-write_field-count-else-is_unchanged c).After-read_field-f) c.loop-at.invariant.4 (copied _ _ _ _ c.copy-w.ensures.value c.copy-w.ensures.dst_after))

pub slice_bounds-write_field-start-else-is_unchanged : goal.slice_bounds-write_field-start-else-is_unchanged
slice_bounds-write_field-start-else-is_unchanged c = front-within (two (goal.at.slice_bounds-write_field-start-else-is_unchanged c).After-read_field-f) (both-put (held (goal.at.slice_bounds-write_field-start-else-is_unchanged c).After-read_field-f) c.loop-at.invariant.4 (copied _ _ _ _ c.copy-w.ensures.value c.copy-w.ensures.dst_after))

pub write_field-w-requires : goal.write_field-w-requires
write_field-w-requires c = ((turn (goal.at.write_field-w-requires c).After-read_field-f).readable, omega (arith, turn-sum (turn (goal.at.write_field-w-requires c).After-read_field-f), file-length c.args.s.now, c.requires.0.limit), rest-room (two (goal.at.write_field-w-requires c).After-read_field-f) (both-put (held (goal.at.write_field-w-requires c).After-read_field-f) c.loop-at.invariant.4 (copied _ _ _ _ c.copy-w.ensures.value c.copy-w.ensures.dst_after)))

pub overflow_add-w-else-is_unchanged : goal.overflow_add-w-else-is_unchanged
overflow_add-w-else-is_unchanged c = omega (arith, both-sum (two (goal.at.overflow_add-w-else-is_unchanged c).After-read_field-f) (both-put (held (goal.at.overflow_add-w-else-is_unchanged c).After-read_field-f) c.loop-at.invariant.4 (copied _ _ _ _ c.copy-w.ensures.value c.copy-w.ensures.dst_after)) c.write_field-w.ensures, c.well_formed)

pub loop-at-smaller : goal.loop-at-smaller
loop-at-smaller c = omega (arith, (turn (goal.at.loop-at-smaller c).After-read_field-f).farther, (turn (goal.at.loop-at-smaller c).After-read_field-f).within)

pub loop-at-preserved : goal.loop-at-preserved
loop-at-preserved c = (_, [], walking-nil _ _ _ _ (turn (goal.at.loop-at-preserved c).After-read_field-f).next, pending-none _ _ (turn (goal.at.loop-at-preserved c).After-read_field-f).within, both-put (two (goal.at.loop-at-preserved c).After-read_field-f) (both-put (held (goal.at.loop-at-preserved c).After-read_field-f) c.loop-at.invariant.4 (copied _ _ _ _ c.copy-w.ensures.value c.copy-w.ensures.dst_after)) c.write_field-w.ensures)

pub slice_bounds-copy-count-2 : goal.slice_bounds-copy-count-2
slice_bounds-copy-count-2 c = omega (arith, c.loop-at.invariant.3.order, c.loop-at.invariant.3.within)

pub slice_bounds-copy-start-2 : goal.slice_bounds-copy-start-2
slice_bounds-copy-start-2 c = omega (arith, c.loop-at.invariant.3.order, c.loop-at.invariant.3.within)

pub slice_bounds-copy-count-3 : goal.slice_bounds-copy-count-3
slice_bounds-copy-count-3 c = front-within (last (goal.at.slice_bounds-copy-count-3 c).After-loop-at) c.loop-at.invariant.4

pub slice_bounds-copy-start-3 : goal.slice_bounds-copy-start-3
slice_bounds-copy-start-3 c = front-within (last (goal.at.slice_bounds-copy-start-3 c).After-loop-at) c.loop-at.invariant.4

pub copy-requires : goal.copy-requires
copy-requires c = rest-room (last (goal.at.copy-requires c).After-loop-at) c.loop-at.invariant.4

pub overflow_add-result : goal.overflow_add-result
overflow_add-result c = omega (arith, both-sum (last (goal.at.overflow_add-result c).After-loop-at) c.loop-at.invariant.4 (copied _ _ _ _ c.copy.ensures.value c.copy.ensures.dst_after), c.well_formed)

pub shape_of-out : goal.shape_of-out
shape_of-out c = both-length (last (goal.at.shape_of-out c).After-loop-at) c.loop-at.invariant.4 (copied _ _ _ _ c.copy.ensures.value c.copy.ensures.dst_after)

pub returns : goal.returns
returns c = put_is _ _ _ _ _ (both-put (last (goal.at.returns c).After-loop-at) c.loop-at.invariant.4 (copied _ _ _ _ c.copy.ensures.value c.copy.ensures.dst_after)) (walking-done _ _ _ _ c.loop-at.invariant.2 (omega arith))
