use Rattle.counted_zones.specs.Going.{Going}
use Rattle.counted_zones.specs.Steps.{list_names, list_end}
use Rattle.use_order.specs.Order.{mention_all}
use lib.ListN.{length}
use Rattle.counted_zones.proofs.count_intervals.Given as goal

abbrev pub invariant-loop-n : goal.invariant-loop-n
invariant-loop-n l = Going l.s (mention_all (list_names l.s l.at l.left) l.initial.uses) (list_end l.s l.at l.left) (length l.initial.uses) l.place l.n l.uses

abbrev pub decreases-loop-n : goal.decreases-loop-n
decreases-loop-n l = l.n
