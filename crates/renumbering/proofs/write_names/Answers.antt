use mathlib.Core.Path.{ap}
use Prim.Native.Nat.{◌-◌}
use native.Mathlib.Omega.{arith}
use Rattle.places.specs.Placed.{of_read}
use Rattle.places.proofs.PlaceLaws.{stands-is}
use Rattle.pieces.proofs.PutLaws.{front-within, rest-room, both-sum, both-put}
use Rattle.mention_runs.proofs.RunLaws.{name-here}
use Rattle.renumbering.proofs.RenumberLaws.{written_none, written-length, name-two, written_next}
use Rattle.renumbering.proofs.write_names.Goals as goal

pub loop-n-init : goal.loop-n-init
loop-n-init c = written_none _ _ _ _ c.requires.0 _

pub count_at-requires : goal.count_at-requires
count_at-requires c = c.loop-n.invariant.going.within

pub shape_of-out-in-Err : goal.shape_of-out-in-Err
shape_of-out-in-Err c = written-length _ _ _ _ _ _ _ _ _ c.loop-n.invariant c.requires.2

pub returns-in-Err : goal.returns-in-Err
returns-in-Err c = c.loop-n.invariant

pub slice_bounds-write_number-count : goal.slice_bounds-write_number-count
slice_bounds-write_number-count c = front-within (name-two _ _ _ _ _ _ _ _ _ c.loop-n.invariant _ _ _ (name-here _ _ c.loop-n.invariant.going.within _ c.loop-n-test.true _ _ _ _ (stands-is c.count_at.ensures (ap of_read c.in-Ok.is))) _ c.renumber-k.ensures c.requires.2) c.loop-n.invariant.put

pub slice_bounds-write_number-start : goal.slice_bounds-write_number-start
slice_bounds-write_number-start c = front-within (name-two _ _ _ _ _ _ _ _ _ c.loop-n.invariant _ _ _ (name-here _ _ c.loop-n.invariant.going.within _ c.loop-n-test.true _ _ _ _ (stands-is c.count_at.ensures (ap of_read c.in-Ok.is))) _ c.renumber-k.ensures c.requires.2) c.loop-n.invariant.put

pub write_number-w-requires : goal.write_number-w-requires
write_number-w-requires c = (rw c.renumber-k.ensures (c.requires.1.carried _), rest-room (name-two _ _ _ _ _ _ _ _ _ c.loop-n.invariant _ _ _ (name-here _ _ c.loop-n.invariant.going.within _ c.loop-n-test.true _ _ _ _ (stands-is c.count_at.ensures (ap of_read c.in-Ok.is))) _ c.renumber-k.ensures c.requires.2) c.loop-n.invariant.put)

pub overflow_add-w : goal.overflow_add-w
overflow_add-w c = omega (arith, both-sum (name-two _ _ _ _ _ _ _ _ _ c.loop-n.invariant _ _ _ (name-here _ _ c.loop-n.invariant.going.within _ c.loop-n-test.true _ _ _ _ (stands-is c.count_at.ensures (ap of_read c.in-Ok.is))) _ c.renumber-k.ensures c.requires.2) c.loop-n.invariant.put c.write_number-w.ensures, c.well_formed)

pub loop-n-preserved : goal.loop-n-preserved
loop-n-preserved c = written_next _ _ _ _ _ _ _ _ _ c.loop-n.invariant _ _ _ _ (name-here _ _ c.loop-n.invariant.going.within _ c.loop-n-test.true _ _ _ _ (stands-is c.count_at.ensures (ap of_read c.in-Ok.is))) _ _ (both-put (name-two _ _ _ _ _ _ _ _ _ c.loop-n.invariant _ _ _ (name-here _ _ c.loop-n.invariant.going.within _ c.loop-n-test.true _ _ _ _ (stands-is c.count_at.ensures (ap of_read c.in-Ok.is))) _ c.renumber-k.ensures c.requires.2) c.loop-n.invariant.put c.write_number-w.ensures)

pub shape_of-out : goal.shape_of-out
shape_of-out c = written-length _ _ _ _ _ _ _ _ _ c.loop-n.invariant c.requires.2

pub returns : goal.returns
returns c = c.loop-n.invariant
