use Prim.Native.Nat.{◌-◌}
use Rattle.use_order.specs.Order.{new_number}
use Rattle.mentions.specs.declared.Stage.TheVariants.{Interval}
use Rattle.renumbering.specs.Run.{MeasuredRun}
use Rattle.renumbering.proofs.size_intervals.Given as goal

abbrev pub invariant-loop-n : goal.invariant-loop-n
invariant-loop-n l = MeasuredRun (new_number l.table) l.s l.at (Interval l.start l.left) l.place (Interval l.last l.n) l.size

abbrev pub decreases-loop-n : goal.decreases-loop-n
decreases-loop-n l = l.n
