use mathlib.Core.Bool.{Bool}
use Prim.Native.Nat.{◌-◌}
use Rattle.interval_runs.specs.Run.{run_at, Passed}
use Rattle.interval_runs.proofs.StepLaws.{Front}
use Rattle.interval_runs.proofs.read_fives.Given as goal

abbrev pub invariant-loop-i : goal.invariant-loop-i
invariant-loop-i l = ((form : Bool) → Passed l.s l.pool form l.stop (run_at l.initial.left l.initial.place l.initial.last) (run_at l.left l.place l.last)) × Front l.s l.pool l.place l.i

abbrev pub decreases-loop-i : goal.decreases-loop-i
decreases-loop-i l = 2 - l.i
