use Prim.Native.Nat.{◌-◌}
use lib.ListN.{length}
use Rattle.use_order.specs.Order.{new_number}
use Rattle.mentions.specs.Walk.{first_stage}
use Rattle.renumbering.specs.Run.{WrittenRun}
use Rattle.renumbering.proofs.write.Given as goal

abbrev pub invariant-loop-out : goal.invariant-loop-out
invariant-loop-out l = WrittenRun (new_number l.table) l.s 0 (first_stage l.i) l.initial.out l.at l.stage l.w l.out

abbrev pub decreases-loop-out : goal.decreases-loop-out
decreases-loop-out l = length l.s - l.at
