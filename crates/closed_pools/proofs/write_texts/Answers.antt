use mathlib.Core.List.{[]}
use native.Mathlib.Omega.{arith}
use Rattle.pieces.proofs.PutLaws.{put-none, put_is, put-length, front-within, rest-room, both-sum, both-put}
use Rattle.closed_pools.proofs.TextsLaws.{going_start, going_next, going_end, going-two, going-sum}
use Rattle.closed_pools.proofs.write_texts.Goals as goal

pub loop-k-init : goal.loop-k-init
loop-k-init c = ([], going_start _ _, put-none _)

pub slice_bounds-write_string-count : goal.slice_bounds-write_string-count
slice_bounds-write_string-count c = front-within (going-two _ _ _ _ c.loop-k.invariant.1 c.loop-k-test.true _ c.requires.1) c.loop-k.invariant.2

pub slice_bounds-write_string-start : goal.slice_bounds-write_string-start
slice_bounds-write_string-start c = front-within (going-two _ _ _ _ c.loop-k.invariant.1 c.loop-k-test.true _ c.requires.1) c.loop-k.invariant.2

pub write_string-w-requires : goal.write_string-w-requires
write_string-w-requires c = (c.requires.0, rest-room (going-two _ _ _ _ c.loop-k.invariant.1 c.loop-k-test.true _ c.requires.1) c.loop-k.invariant.2)

pub overflow_add-w : goal.overflow_add-w
overflow_add-w c = omega (arith, both-sum (going-two _ _ _ _ c.loop-k.invariant.1 c.loop-k-test.true _ c.requires.1) c.loop-k.invariant.2 c.write_string-w.ensures, c.well_formed)

pub loop-k-preserved : goal.loop-k-preserved
loop-k-preserved c = (_, going_next _ _ _ _ c.loop-k.invariant.1 c.loop-k-test.true, both-put (going-two _ _ _ _ c.loop-k.invariant.1 c.loop-k-test.true _ c.requires.1) c.loop-k.invariant.2 c.write_string-w.ensures)

pub shape_of-out : goal.shape_of-out
shape_of-out c = put-length c.loop-k.invariant.2 (omega (arith, going-sum _ _ _ _ c.loop-k.invariant.1, c.requires.1))

pub returns : goal.returns
returns c = put_is _ _ _ _ _ c.loop-k.invariant.2 (going_end _ _ _ _ c.loop-k.invariant.1 c.loop-k-test.false)
