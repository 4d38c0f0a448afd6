use Prim.Native.Nat.{◌-◌}
use Rattle.interval_runs.proofs.StepLaws.{Going}
use Rattle.interval_runs.proofs.read_run.Given as goal

abbrev pub invariant-loop-r : goal.invariant-loop-r
invariant-loop-r l = Going l.s l.pool l.form l.stop l.n l.at l.prev l.r

abbrev pub decreases-loop-r : goal.decreases-loop-r
decreases-loop-r l = l.r.left
