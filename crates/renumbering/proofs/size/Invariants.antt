use Prim.Native.Nat.{◌-◌}
use lib.ListN.{length}
use Rattle.use_order.specs.Order.{new_number}
use Rattle.mentions.specs.Walk.{first_stage}
use Rattle.renumbering.specs.Run.{MeasuredRun}
use Rattle.renumbering.proofs.size.Given as goal

abbrev pub invariant-loop-behind : goal.invariant-loop-behind
invariant-loop-behind l = MeasuredRun (new_number l.table) l.s 0 (first_stage l.i) l.at l.stage l.n

abbrev pub decreases-loop-behind : goal.decreases-loop-behind
decreases-loop-behind l = length l.s - l.at
