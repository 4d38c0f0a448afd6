use mathlib.Core.Path.{ap}
use Prim.Native.Nat.{◌-◌}
use native.Mathlib.Omega.{arith}
use Rattle.places.specs.Placed.{of_read}
use Rattle.places.proofs.PlaceLaws.{stands-is}
use Rattle.pieces.proofs.PutLaws.{front-within, rest-room, both-sum, both-put}
use Rattle.mention_runs.proofs.RunLaws.{start-here}
use Rattle.renumbering.proofs.RenumberLaws.{not_none, written_none, written-length, written-two, written_next}
use Rattle.renumbering.proofs.write_intervals.Goals as goal

pub loop-n-init : goal.loop-n-init
loop-n-init c = written_none _ _ _ _ c.requires.0 _

pub next_start-next-requires : goal.next_start-next-requires
next_start-next-requires c = c.loop-n.invariant.going.within

pub shape_of-out-then-p-eq0 : goal.shape_of-out-then-p-eq0
shape_of-out-then-p-eq0 c = written-length _ _ _ _ _ _ _ _ _ c.loop-n.invariant c.requires.2

pub returns-then-p-eq0 : goal.returns-then-p-eq0
returns-then-p-eq0 c = c.loop-n.invariant

pub count_at-requires : goal.count_at-requires
count_at-requires c = (c.next_start-next.ensures.ahead c.if-p-eq0.false 1 (λ z. omega arith)).within

pub shape_of-out-in-Err : goal.shape_of-out-in-Err
shape_of-out-in-Err c = written-length _ _ _ _ _ _ _ _ _ c.loop-n.invariant c.requires.2

pub returns-in-Err : goal.returns-in-Err
returns-in-Err c = c.loop-n.invariant

pub slice_bounds-write_mention-count : goal.slice_bounds-write_mention-count
slice_bounds-write_mention-count c = (start-here _ _ c.loop-n.invariant.going.within _ _ (not_none c.loop-n-test.true) _ c.next_start-next.ensures c.if-p-eq0.false _ _ (stands-is c.count_at.ensures (ap of_read c.in-Ok.is))).first

pub slice_bounds-write_mention-start : goal.slice_bounds-write_mention-start
slice_bounds-write_mention-start c = (start-here _ _ c.loop-n.invariant.going.within _ _ (not_none c.loop-n-test.true) _ c.next_start-next.ensures c.if-p-eq0.false _ _ (stands-is c.count_at.ensures (ap of_read c.in-Ok.is))).first

pub slice_bounds-write_mention-end : goal.slice_bounds-write_mention-end
slice_bounds-write_mention-end c = let x = (start-here _ _ c.loop-n.invariant.going.within _ _ (not_none c.loop-n-test.true) _ c.next_start-next.ensures c.if-p-eq0.false _ _ (stands-is c.count_at.ensures (ap of_read c.in-Ok.is))) in omega (arith, x.rises, x.last)

pub slice_bounds-write_mention-count-in-Ok : goal.slice_bounds-write_mention-count-in-Ok
slice_bounds-write_mention-count-in-Ok c = front-within (written-two _ _ _ _ _ _ _ _ _ c.loop-n.invariant _ _ _ _ (start-here _ _ c.loop-n.invariant.going.within _ _ (not_none c.loop-n-test.true) _ c.next_start-next.ensures c.if-p-eq0.false _ _ (stands-is c.count_at.ensures (ap of_read c.in-Ok.is))) _ c.renumber-k.ensures c.requires.2) c.loop-n.invariant.put

pub slice_bounds-write_mention-start-in-Ok : goal.slice_bounds-write_mention-start-in-Ok
slice_bounds-write_mention-start-in-Ok c = front-within (written-two _ _ _ _ _ _ _ _ _ c.loop-n.invariant _ _ _ _ (start-here _ _ c.loop-n.invariant.going.within _ _ (not_none c.loop-n-test.true) _ c.next_start-next.ensures c.if-p-eq0.false _ _ (stands-is c.count_at.ensures (ap of_read c.in-Ok.is))) _ c.renumber-k.ensures c.requires.2) c.loop-n.invariant.put

pub write_mention-w-requires : goal.write_mention-w-requires
write_mention-w-requires c = (rw c.renumber-k.ensures (c.requires.1.carried _), rest-room (written-two _ _ _ _ _ _ _ _ _ c.loop-n.invariant _ _ _ _ (start-here _ _ c.loop-n.invariant.going.within _ _ (not_none c.loop-n-test.true) _ c.next_start-next.ensures c.if-p-eq0.false _ _ (stands-is c.count_at.ensures (ap of_read c.in-Ok.is))) _ c.renumber-k.ensures c.requires.2) c.loop-n.invariant.put)

pub overflow_add-w : goal.overflow_add-w
overflow_add-w c = omega (arith, both-sum (written-two _ _ _ _ _ _ _ _ _ c.loop-n.invariant _ _ _ _ (start-here _ _ c.loop-n.invariant.going.within _ _ (not_none c.loop-n-test.true) _ c.next_start-next.ensures c.if-p-eq0.false _ _ (stands-is c.count_at.ensures (ap of_read c.in-Ok.is))) _ c.renumber-k.ensures c.requires.2) c.loop-n.invariant.put c.write_mention-w.ensures, c.well_formed)

pub loop-n-preserved : goal.loop-n-preserved
loop-n-preserved c = written_next _ _ _ _ _ _ _ _ _ c.loop-n.invariant _ _ _ _ (start-here _ _ c.loop-n.invariant.going.within _ _ (not_none c.loop-n-test.true) _ c.next_start-next.ensures c.if-p-eq0.false _ _ (stands-is c.count_at.ensures (ap of_read c.in-Ok.is))) _ _ (both-put (written-two _ _ _ _ _ _ _ _ _ c.loop-n.invariant _ _ _ _ (start-here _ _ c.loop-n.invariant.going.within _ _ (not_none c.loop-n-test.true) _ c.next_start-next.ensures c.if-p-eq0.false _ _ (stands-is c.count_at.ensures (ap of_read c.in-Ok.is))) _ c.renumber-k.ensures c.requires.2) c.loop-n.invariant.put c.write_mention-w.ensures)

pub shape_of-out : goal.shape_of-out
shape_of-out c = written-length _ _ _ _ _ _ _ _ _ c.loop-n.invariant c.requires.2

pub returns : goal.returns
returns c = c.loop-n.invariant
