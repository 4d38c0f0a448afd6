use Prim.Native.Nat.{◌+◌}
use Rattle.interval_runs.specs.Run.{run_at}
use Rattle.interval_runs.proofs.StepLaws.{More}
use Rattle.interval_runs.proofs.read_more.Given as goal

abbrev pub invariant-loop-left : goal.invariant-loop-left
invariant-loop-left l = More l.s l.pool l.stop (run_at (l.rest + l.initial.left) l.initial.place l.initial.last) l.rest l.left l.place l.last

abbrev pub decreases-loop-left : goal.decreases-loop-left
decreases-loop-left l = l.left
