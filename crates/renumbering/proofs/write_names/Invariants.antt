use Prim.Native.Nat.{◌-◌}
use Rattle.use_order.specs.Order.{new_number}
use Rattle.mentions.specs.declared.Stage.TheVariants.{Names}
use Rattle.renumbering.specs.Run.{WrittenRun}
use Rattle.renumbering.proofs.write_names.Given as goal

abbrev pub invariant-loop-n : goal.invariant-loop-n
invariant-loop-n l = WrittenRun (new_number l.table) l.s l.at (Names l.left l.locations l.numbered) l.initial.out l.place (Names l.n l.locations l.numbered) l.w l.out

abbrev pub decreases-loop-n : goal.decreases-loop-n
decreases-loop-n l = l.n
