use Prim.Native.Nat.{◌-◌}
use native.Mathlib.Omega.{arith}
use Rattle.pieces.proofs.PutLaws.{copied, front-within, rest-room, both-sum, both-put, both-length}
use Rattle.renumbering.proofs.RenumberLaws.{written_start, written-bound, written-left, written_on, written-two, written_next, written-end}
use Rattle.renumbering.proofs.NextLaws.{next-none, next-some}
use Rattle.renumbering.proofs.write.Goals as goal

pub loop-out-init : goal.loop-out-init
loop-out-init c = written_start _ _ _ _ _ c.first-stage.ensures

pub slice_bounds-write_run-count : goal.slice_bounds-write_run-count
slice_bounds-write_run-count c = front-within (written-left _ _ _ _ _ c.requires.1 _ _ _ _ c.loop-out.invariant) c.loop-out.invariant.put

pub slice_bounds-write_run-start : goal.slice_bounds-write_run-start
slice_bounds-write_run-start c = front-within (written-left _ _ _ _ _ c.requires.1 _ _ _ _ c.loop-out.invariant) c.loop-out.invariant.put

pub write_run-c-requires : goal.write_run-c-requires
write_run-c-requires c = (c.loop-out.invariant.going.within, c.requires.0, rest-room (written-left _ _ _ _ _ c.requires.1 _ _ _ _ c.loop-out.invariant) c.loop-out.invariant.put)

pub overflow_add-w : goal.overflow_add-w
overflow_add-w c = omega (arith, written-bound _ _ _ _ _ c.requires.1 _ _ _ _ (written_on _ _ _ _ _ c.requires.1 _ _ _ _ c.loop-out.invariant _ _ _ _ c.write_run-c.ensures), c.well_formed)

pub next-m-requires : goal.next-m-requires
next-m-requires c = c.write_run-c.ensures.going.within

pub slice_bounds-copy-count : goal.slice_bounds-copy-count
slice_bounds-copy-count c = c.write_run-c.ensures.going.within

pub slice_bounds-copy-start : goal.slice_bounds-copy-start
slice_bounds-copy-start c = c.write_run-c.ensures.going.within

pub slice_bounds-copy-count-in-None : goal.slice_bounds-copy-count-in-None
slice_bounds-copy-count-in-None c = front-within (written-end _ _ _ _ _ c.requires.1 _ _ _ _ (written_on _ _ _ _ _ c.requires.1 _ _ _ _ c.loop-out.invariant _ _ _ _ c.write_run-c.ensures) (next-none _ _ _ _ c.next-m.ensures c.in-None.is)) (written_on _ _ _ _ _ c.requires.1 _ _ _ _ c.loop-out.invariant _ _ _ _ c.write_run-c.ensures).put

pub slice_bounds-copy-start-in-None : goal.slice_bounds-copy-start-in-None
slice_bounds-copy-start-in-None c = front-within (written-end _ _ _ _ _ c.requires.1 _ _ _ _ (written_on _ _ _ _ _ c.requires.1 _ _ _ _ c.loop-out.invariant _ _ _ _ c.write_run-c.ensures) (next-none _ _ _ _ c.next-m.ensures c.in-None.is)) (written_on _ _ _ _ _ c.requires.1 _ _ _ _ c.loop-out.invariant _ _ _ _ c.write_run-c.ensures).put

pub copy-requires : goal.copy-requires
copy-requires c = rest-room (written-end _ _ _ _ _ c.requires.1 _ _ _ _ (written_on _ _ _ _ _ c.requires.1 _ _ _ _ c.loop-out.invariant _ _ _ _ c.write_run-c.ensures) (next-none _ _ _ _ c.next-m.ensures c.in-None.is)) (written_on _ _ _ _ _ c.requires.1 _ _ _ _ c.loop-out.invariant _ _ _ _ c.write_run-c.ensures).put

pub overflow_add-result : goal.overflow_add-result
overflow_add-result c = omega (arith, both-sum (written-end _ _ _ _ _ c.requires.1 _ _ _ _ (written_on _ _ _ _ _ c.requires.1 _ _ _ _ c.loop-out.invariant _ _ _ _ c.write_run-c.ensures) (next-none _ _ _ _ c.next-m.ensures c.in-None.is)) (written_on _ _ _ _ _ c.requires.1 _ _ _ _ c.loop-out.invariant _ _ _ _ c.write_run-c.ensures).put (copied _ _ _ _ c.copy.ensures.value c.copy.ensures.dst_after), c.well_formed)

pub shape_of-out-in-None : goal.shape_of-out-in-None
shape_of-out-in-None c = both-length (written-end _ _ _ _ _ c.requires.1 _ _ _ _ (written_on _ _ _ _ _ c.requires.1 _ _ _ _ c.loop-out.invariant _ _ _ _ c.write_run-c.ensures) (next-none _ _ _ _ c.next-m.ensures c.in-None.is)) (written_on _ _ _ _ _ c.requires.1 _ _ _ _ c.loop-out.invariant _ _ _ _ c.write_run-c.ensures).put (copied _ _ _ _ c.copy.ensures.value c.copy.ensures.dst_after)

pub returns-in-None : goal.returns-in-None
returns-in-None c = both-put (written-end _ _ _ _ _ c.requires.1 _ _ _ _ (written_on _ _ _ _ _ c.requires.1 _ _ _ _ c.loop-out.invariant _ _ _ _ c.write_run-c.ensures) (next-none _ _ _ _ c.next-m.ensures c.in-None.is)) (written_on _ _ _ _ _ c.requires.1 _ _ _ _ c.loop-out.invariant _ _ _ _ c.write_run-c.ensures).put (copied _ _ _ _ c.copy.ensures.value c.copy.ensures.dst_after)

pub slice_bounds-write_mention-count : goal.slice_bounds-write_mention-count
slice_bounds-write_mention-count c = (next-some _ _ _ _ _ _ _ _ c.next-m.ensures c.in-Some.is).first

pub slice_bounds-write_mention-start : goal.slice_bounds-write_mention-start
slice_bounds-write_mention-start c = (next-some _ _ _ _ _ _ _ _ c.next-m.ensures c.in-Some.is).first

pub slice_bounds-write_mention-end : goal.slice_bounds-write_mention-end
slice_bounds-write_mention-end c = let x = (next-some _ _ _ _ _ _ _ _ c.next-m.ensures c.in-Some.is) in omega (arith, x.rises, x.last)

pub slice_bounds-write_mention-count-in-Some : goal.slice_bounds-write_mention-count-in-Some
slice_bounds-write_mention-count-in-Some c = front-within (written-two _ _ _ _ _ _ _ _ _ (written_on _ _ _ _ _ c.requires.1 _ _ _ _ c.loop-out.invariant _ _ _ _ c.write_run-c.ensures) _ _ _ _ (next-some _ _ _ _ _ _ _ _ c.next-m.ensures c.in-Some.is) _ c.renumber-k.ensures c.requires.1) (written_on _ _ _ _ _ c.requires.1 _ _ _ _ c.loop-out.invariant _ _ _ _ c.write_run-c.ensures).put

pub slice_bounds-write_mention-start-in-Some : goal.slice_bounds-write_mention-start-in-Some
slice_bounds-write_mention-start-in-Some c = front-within (written-two _ _ _ _ _ _ _ _ _ (written_on _ _ _ _ _ c.requires.1 _ _ _ _ c.loop-out.invariant _ _ _ _ c.write_run-c.ensures) _ _ _ _ (next-some _ _ _ _ _ _ _ _ c.next-m.ensures c.in-Some.is) _ c.renumber-k.ensures c.requires.1) (written_on _ _ _ _ _ c.requires.1 _ _ _ _ c.loop-out.invariant _ _ _ _ c.write_run-c.ensures).put

pub write_mention-w-requires : goal.write_mention-w-requires
write_mention-w-requires c = (rw c.renumber-k.ensures (c.requires.0.carried _), rest-room (written-two _ _ _ _ _ _ _ _ _ (written_on _ _ _ _ _ c.requires.1 _ _ _ _ c.loop-out.invariant _ _ _ _ c.write_run-c.ensures) _ _ _ _ (next-some _ _ _ _ _ _ _ _ c.next-m.ensures c.in-Some.is) _ c.renumber-k.ensures c.requires.1) (written_on _ _ _ _ _ c.requires.1 _ _ _ _ c.loop-out.invariant _ _ _ _ c.write_run-c.ensures).put)

pub overflow_add-w-in-Some : goal.overflow_add-w-in-Some
overflow_add-w-in-Some c = omega (arith, both-sum (written-two _ _ _ _ _ _ _ _ _ (written_on _ _ _ _ _ c.requires.1 _ _ _ _ c.loop-out.invariant _ _ _ _ c.write_run-c.ensures) _ _ _ _ (next-some _ _ _ _ _ _ _ _ c.next-m.ensures c.in-Some.is) _ c.renumber-k.ensures c.requires.1) (written_on _ _ _ _ _ c.requires.1 _ _ _ _ c.loop-out.invariant _ _ _ _ c.write_run-c.ensures).put c.write_mention-w.ensures, c.well_formed)

pub loop-out-smaller : goal.loop-out-smaller
loop-out-smaller c = let x = (next-some _ _ _ _ _ _ _ _ c.next-m.ensures c.in-Some.is) in omega (arith, x.first, x.rises, x.last, c.write_run-c.ensures.going.onward)

pub loop-out-preserved : goal.loop-out-preserved
loop-out-preserved c = written_next _ _ _ _ _ _ _ _ _ (written_on _ _ _ _ _ c.requires.1 _ _ _ _ c.loop-out.invariant _ _ _ _ c.write_run-c.ensures) _ _ _ _ (next-some _ _ _ _ _ _ _ _ c.next-m.ensures c.in-Some.is) _ _ (both-put (written-two _ _ _ _ _ _ _ _ _ (written_on _ _ _ _ _ c.requires.1 _ _ _ _ c.loop-out.invariant _ _ _ _ c.write_run-c.ensures) _ _ _ _ (next-some _ _ _ _ _ _ _ _ c.next-m.ensures c.in-Some.is) _ c.renumber-k.ensures c.requires.1) (written_on _ _ _ _ _ c.requires.1 _ _ _ _ c.loop-out.invariant _ _ _ _ c.write_run-c.ensures).put c.write_mention-w.ensures)
