use Prim.Native.Nat.{◌-◌}
use Rattle.use_order.specs.Order.{new_number}
use Rattle.mentions.specs.declared.Stage.TheVariants.{Names}
use Rattle.renumbering.specs.Run.{MeasuredRun}
use Rattle.renumbering.proofs.size_names.Given as goal

abbrev pub invariant-loop-n : goal.invariant-loop-n
invariant-loop-n l = MeasuredRun (new_number l.table) l.s l.at (Names l.left l.locations l.numbered) l.place (Names l.n l.locations l.numbered) l.size

abbrev pub decreases-loop-n : goal.decreases-loop-n
decreases-loop-n l = l.n
