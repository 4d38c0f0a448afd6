use Prim.Native.Nat.{◌-◌}
use mathlib.Core.Path.{◌≡◌}
use lib.ListN.{length}
use Rattle.check_steps.specs.Flags.{SoFar}
use Rattle.check_steps.proofs.StepLaws.{Walking}
use Rattle.checks.proofs.walk_with.Given as goal

abbrev pub invariant-loop-x : goal.invariant-loop-x
invariant-loop-x l = Walking l.s l.c l.index l.order × SoFar l.s l.c l.flags × (length l.flags ≡ length l.initial.flags) × (length l.index ≡ length l.initial.index) × (length l.order ≡ length l.initial.order)

abbrev pub decreases-loop-x : goal.decreases-loop-x
decreases-loop-x l = length l.s - l.c.at
