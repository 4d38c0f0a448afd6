use Prim.Native.Nat.{◌-◌}
use native.Mathlib.Omega.{arith}
use Rattle.pieces.proofs.PutLaws.{put_is, put-length, front-within, rest-room, both-sum, both-put}
use Rattle.closed_walks.proofs.WriteLaws.{going-sum, going_end, turn, part-short, keeps_here, pool-here, next-sum, going-two, size-known, writing_start, writing-next}
use Rattle.closed_walks.proofs.write_fields.Goals as goal

pub loop-at-init : goal.loop-at-init
loop-at-init c = writing_start _ _ _ c.requires.0.walkable _

pub read_field-f-requires : goal.read_field-f-requires
read_field-f-requires c = c.loop-at-test.true

pub slice_bounds-size_at-count : goal.slice_bounds-size_at-count
slice_bounds-size_at-count c = (turn _ _ _ _ _ c.loop-at.invariant.going _ c.loop-at-test.true c.read_field-f.ensures).ordered

pub slice_bounds-size_at-start : goal.slice_bounds-size_at-start
slice_bounds-size_at-start c = (turn _ _ _ _ _ c.loop-at.invariant.going _ c.loop-at-test.true c.read_field-f.ensures).ordered

pub slice_bounds-size_at-end : goal.slice_bounds-size_at-end
slice_bounds-size_at-end c = (turn _ _ _ _ _ c.loop-at.invariant.going _ c.loop-at-test.true c.read_field-f.ensures).within

pub size_at-n-requires : goal.size_at-n-requires
size_at-n-requires c = ((part-short _ _ _ _ _ c.loop-at.invariant.going _ c.loop-at-test.true c.read_field-f.ensures c.requires.0.walkable c.requires.0.few), c.requires.0.few, (keeps_here _ _ _ _ _ c.loop-at.invariant.going _ c.loop-at-test.true c.read_field-f.ensures _ c.requires.0.keeps), (pool-here _ _ _ _ _ c.loop-at.invariant.going _ c.loop-at-test.true c.read_field-f.ensures), size-known _ _ _ _ _ c.loop-at.invariant.going _ c.loop-at-test.true c.read_field-f.ensures _ _ c.loop-at.invariant.count c.requires.2)

pub slice_bounds-write_field-count : goal.slice_bounds-write_field-count
slice_bounds-write_field-count c = (turn _ _ _ _ _ c.loop-at.invariant.going _ c.loop-at-test.true c.read_field-f.ensures).ordered

pub slice_bounds-write_field-start : goal.slice_bounds-write_field-start
slice_bounds-write_field-start c = (turn _ _ _ _ _ c.loop-at.invariant.going _ c.loop-at-test.true c.read_field-f.ensures).ordered

pub slice_bounds-write_field-end : goal.slice_bounds-write_field-end
slice_bounds-write_field-end c = (turn _ _ _ _ _ c.loop-at.invariant.going _ c.loop-at-test.true c.read_field-f.ensures).within

pub slice_bounds-write_field-count-in-loop-at : goal.slice_bounds-write_field-count-in-loop-at
slice_bounds-write_field-count-in-loop-at c = front-within (going-two _ _ _ _ _ c.loop-at.invariant.going _ c.loop-at-test.true c.read_field-f.ensures c.requires.0.walkable c.requires.0.few _ c.requires.1) c.loop-at.invariant.put

pub slice_bounds-write_field-start-in-loop-at : goal.slice_bounds-write_field-start-in-loop-at
slice_bounds-write_field-start-in-loop-at c = front-within (going-two _ _ _ _ _ c.loop-at.invariant.going _ c.loop-at-test.true c.read_field-f.ensures c.requires.0.walkable c.requires.0.few _ c.requires.1) c.loop-at.invariant.put

pub write_field-w-requires : goal.write_field-w-requires
write_field-w-requires c = (record { few = c.requires.0.few; small = c.requires.0.small; short = (part-short _ _ _ _ _ c.loop-at.invariant.going _ c.loop-at-test.true c.read_field-f.ensures c.requires.0.walkable c.requires.0.few) }, omega (arith, next-sum _ _ _ _ _ c.loop-at.invariant.going _ c.loop-at-test.true c.read_field-f.ensures c.requires.0.walkable c.requires.0.few, c.requires.0.total), rest-room (going-two _ _ _ _ _ c.loop-at.invariant.going _ c.loop-at-test.true c.read_field-f.ensures c.requires.0.walkable c.requires.0.few _ c.requires.1) c.loop-at.invariant.put, (keeps_here _ _ _ _ _ c.loop-at.invariant.going _ c.loop-at-test.true c.read_field-f.ensures _ c.requires.0.keeps), (pool-here _ _ _ _ _ c.loop-at.invariant.going _ c.loop-at-test.true c.read_field-f.ensures), c.size_at-n.ensures)

pub overflow_add-w : goal.overflow_add-w
overflow_add-w c = omega (arith, both-sum (going-two _ _ _ _ _ c.loop-at.invariant.going _ c.loop-at-test.true c.read_field-f.ensures c.requires.0.walkable c.requires.0.few _ c.requires.1) c.loop-at.invariant.put c.write_field-w.ensures, c.well_formed)

pub overflow_add-i : goal.overflow_add-i
overflow_add-i c = omega (arith, c.loop-at.invariant.count, c.loop-at.invariant.going.early, c.loop-at.invariant.going.within)

pub loop-at-smaller : goal.loop-at-smaller
loop-at-smaller c = let u = (turn _ _ _ _ _ c.loop-at.invariant.going _ c.loop-at-test.true c.read_field-f.ensures) in omega (arith, u.farther, u.ordered, u.within)

pub loop-at-preserved : goal.loop-at-preserved
loop-at-preserved c = writing-next _ _ _ _ _ _ _ _ c.loop-at.invariant _ c.loop-at-test.true c.read_field-f.ensures c.requires.0.walkable c.requires.0.few _ _ (both-put (going-two _ _ _ _ _ c.loop-at.invariant.going _ c.loop-at-test.true c.read_field-f.ensures c.requires.0.walkable c.requires.0.few _ c.requires.1) c.loop-at.invariant.put c.write_field-w.ensures)

pub shape_of-out : goal.shape_of-out
shape_of-out c = put-length c.loop-at.invariant.put (omega (arith, going-sum _ _ _ _ _ c.loop-at.invariant.going, c.requires.1))

pub returns : goal.returns
returns c = put_is _ _ _ _ _ c.loop-at.invariant.put (going_end _ _ _ _ _ c.loop-at.invariant.going c.loop-at-test.false)
