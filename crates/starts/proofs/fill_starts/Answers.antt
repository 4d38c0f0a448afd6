use mathlib.Core.Path.{sym}
use native.Mathlib.Omega.{arith}
use Rattle.answers.specs.Answers.{no_pool}
use Rattle.locate.specs.Asked.{holder}
use Rattle.locate.proofs.WalkingLaws.{first-pool, first-fault, first_short, first-over, pool-walk}
use Rattle.starts.proofs.WayLaws.{out-refused, out-cut, out-end, out-on}
use Rattle.starts.proofs.fill_starts.Goals as goal

pub slice_bounds-room-count : goal.slice_bounds-room-count
slice_bounds-room-count c = (first-pool c.read_first.ensures _ _ c.in-Pool.is).lies.order

pub slice_bounds-room-start : goal.slice_bounds-room-start
slice_bounds-room-start c = (first-pool c.read_first.ensures _ _ c.in-Pool.is).lies.order

pub slice_bounds-room-end : goal.slice_bounds-room-end
slice_bounds-room-end c = (first-pool c.read_first.ensures _ _ c.in-Pool.is).lies.inside

pub fill_short-requires : goal.fill_short-requires
fill_short-requires c = ((first-pool c.read_first.ensures _ _ c.in-Pool.is).lies, omega (arith, c.if-room-le256.true, c.room.ensures))

pub returns-then-room-le256 : goal.returns-then-room-le256
returns-then-room-le256 c = out-on _ _ _ _ _ (sym (pool-walk (first-pool c.read_first.ensures _ _ c.in-Pool.is) _)) c.fill_short.ensures

pub fill_long-requires : goal.fill_long-requires
fill_long-requires c = (first-pool c.read_first.ensures _ _ c.in-Pool.is).lies

pub returns-in-Refused : goal.returns-in-Refused
returns-in-Refused c = out-refused _ _ _ _ (first-fault c.read_first.ensures (holder _) no_pool _ _ c.in-Refused.is)

pub returns-in-Cut : goal.returns-in-Cut
returns-in-Cut c = out-cut _ _ _ (first_short c.read_first.ensures (holder _) no_pool _ c.in-Cut.is)

pub returns-in-End : goal.returns-in-End
returns-in-End c = out-end _ _ _ _ (first-over c.read_first.ensures (holder _) no_pool _ c.in-End.is)

pub returns-else-room-le256 : goal.returns-else-room-le256
returns-else-room-le256 c = out-on _ _ _ _ _ (sym (pool-walk (first-pool c.read_first.ensures _ _ c.in-Pool.is) _)) c.fill_long.ensures
