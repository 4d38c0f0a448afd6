use Rattle.mentions.specs.declared.Stage.TheVariants.{Names}
use Rattle.mention_runs.specs.Run.{Counted}
use Rattle.mention_runs.proofs.count_names.Given as goal

abbrev pub invariant-loop-n : goal.invariant-loop-n
invariant-loop-n l = Counted l.s l.at (Names l.left l.locations l.numbered) l.initial.uses l.place (Names l.n l.locations l.numbered) l.uses

abbrev pub decreases-loop-n : goal.decreases-loop-n
decreases-loop-n l = l.n
