use Prim.Native.Nat.{◌+◌}
use Rattle.interval_runs.specs.Run.{run_at}
use Rattle.interval_runs.proofs.TicksLaws.{Ticking}
use Rattle.interval_runs.proofs.read_ticks.Given as goal

abbrev pub invariant-loop-left : goal.invariant-loop-left
invariant-loop-left l = Ticking l.s l.pool l.stop (run_at (l.rest + l.initial.left) l.initial.place l.initial.last) l.rest l.left l.place l.old l.last

abbrev pub decreases-loop-left : goal.decreases-loop-left
decreases-loop-left l = l.left
