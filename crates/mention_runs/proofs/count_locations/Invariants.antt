use Prim.Native.Nat.{◌-◌}
use lib.ListN.{length}
use Rattle.mentions.specs.declared.Stage.TheVariants.{Names}
use Rattle.mention_runs.specs.Run.{Counted}
use Rattle.mention_runs.proofs.count_locations.Given as goal

abbrev pub invariant-loop-n : goal.invariant-loop-n
invariant-loop-n l = Counted l.s l.at (Names l.left l.locations l.numbered) l.initial.uses l.place (Names l.n l.k l.numbered) l.uses

abbrev pub decreases-loop-n : goal.decreases-loop-n
decreases-loop-n l = length l.s - l.place
