use native.Mathlib.Omega.{arith}
use Rattle.answers.specs.Answers.{no_pool}
use Rattle.locate.specs.Asked.{holder}
use Rattle.locate.proofs.WalkingLaws.{first-pool, first-fault, first_short, first-over, pool-walk}
use Rattle.found_zones.proofs.FindLaws.{out-refused, out-cut, out-end, out-on, finds-zone}
use Rattle.found_zones.proofs.find_zone.Goals as goal

pub slice_bounds-room-count : goal.slice_bounds-room-count
slice_bounds-room-count c = (first-pool c.read_first.ensures _ _ c.in-Pool.is).lies.order

pub slice_bounds-room-start : goal.slice_bounds-room-start
slice_bounds-room-start c = (first-pool c.read_first.ensures _ _ c.in-Pool.is).lies.order

pub slice_bounds-room-end : goal.slice_bounds-room-end
slice_bounds-room-end c = (first-pool c.read_first.ensures _ _ c.in-Pool.is).lies.inside

pub find_short-requires : goal.find_short-requires
find_short-requires c = ((first-pool c.read_first.ensures _ _ c.in-Pool.is).lies, omega (arith, c.room.ensures))

pub returns-then-room-le256 : goal.returns-then-room-le256
returns-then-room-le256 c = finds-zone _ _ _ (out-on _ _ _ (pool-walk (first-pool c.read_first.ensures _ _ c.in-Pool.is) _) _ c.find_short.ensures)

pub find_long-requires : goal.find_long-requires
find_long-requires c = (first-pool c.read_first.ensures _ _ c.in-Pool.is).lies

pub returns-in-Refused : goal.returns-in-Refused
returns-in-Refused c = finds-zone _ _ _ (out-refused _ _ _ _ (first-fault c.read_first.ensures (holder _) no_pool _ _ c.in-Refused.is))

pub returns-in-Cut : goal.returns-in-Cut
returns-in-Cut c = finds-zone _ _ _ (out-cut _ _ _ (first_short c.read_first.ensures (holder _) no_pool _ c.in-Cut.is))

pub returns-in-End : goal.returns-in-End
returns-in-End c = finds-zone _ _ _ (out-end _ _ _ _ (first-over c.read_first.ensures (holder _) no_pool _ c.in-End.is))

pub returns-else-room-le256 : goal.returns-else-room-le256
returns-else-room-le256 c = finds-zone _ _ _ (out-on _ _ _ (pool-walk (first-pool c.read_first.ensures _ _ c.in-Pool.is) _) _ c.find_long.ensures)
