use Prim.Native.Nat.{◌-◌}
use lib.ListN.{length}
use Rattle.renumbering.proofs.UseLaws.{Counting}
use Rattle.renumbering.proofs.count.Given as goal

abbrev pub invariant-loop-behind : goal.invariant-loop-behind
invariant-loop-behind l = Counting l.i l.s l.initial.uses l.uses l.at l.stage

abbrev pub decreases-loop-behind : goal.decreases-loop-behind
decreases-loop-behind l = length l.s - l.at
