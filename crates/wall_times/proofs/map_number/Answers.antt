use native.Mathlib.Omega.{arith}
use mathlib.Core.Path.{sym, ap, ◌∙◌}
use Rattle.answers.specs.Answers.{no_pool}
use Rattle.locate.specs.Asked.{holder}
use Rattle.locate.proofs.WalkingLaws.{first-pool, first-fault, first_short, first-over, pool-walk}
use Rattle.wall_times.specs.View.{mapping_at}
use Rattle.wall_times.proofs.WayLaws.{out-refused, out-cut, out-end}
use Rattle.wall_times.proofs.map_number.Goals as goal

pub slice_bounds-room-count : goal.slice_bounds-room-count
slice_bounds-room-count c = (first-pool c.read_first.ensures _ _ c.in-Pool.is).lies.order

pub slice_bounds-room-start : goal.slice_bounds-room-start
slice_bounds-room-start c = (first-pool c.read_first.ensures _ _ c.in-Pool.is).lies.order

pub slice_bounds-room-end : goal.slice_bounds-room-end
slice_bounds-room-end c = (first-pool c.read_first.ensures _ _ c.in-Pool.is).lies.inside

pub map_short-requires : goal.map_short-requires
map_short-requires c = ((first-pool c.read_first.ensures _ _ c.in-Pool.is).lies, omega (arith, c.room.ensures))

pub returns-then-room-le256 : goal.returns-then-room-le256
returns-then-room-le256 c = c.map_short.ensures ∙ ap (mapping_at c.args.l) (sym (pool-walk (first-pool c.read_first.ensures _ _ c.in-Pool.is) _))

pub map_long-requires : goal.map_long-requires
map_long-requires c = (first-pool c.read_first.ensures _ _ c.in-Pool.is).lies

pub returns-in-Refused : goal.returns-in-Refused
returns-in-Refused c = out-refused _ _ _ _ (first-fault c.read_first.ensures (holder _) no_pool _ _ c.in-Refused.is)

pub returns-in-Cut : goal.returns-in-Cut
returns-in-Cut c = out-cut _ _ _ (first_short c.read_first.ensures (holder _) no_pool _ c.in-Cut.is)

pub returns-in-End : goal.returns-in-End
returns-in-End c = out-end _ _ _ _ (first-over c.read_first.ensures (holder _) no_pool _ c.in-End.is)

pub returns-else-room-le256 : goal.returns-else-room-le256
returns-else-room-le256 c = c.map_long.ensures ∙ ap (mapping_at c.args.l) (sym (pool-walk (first-pool c.read_first.ensures _ _ c.in-Pool.is) _))
