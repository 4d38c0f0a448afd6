use Prim.Native.Nat.{◌-◌, ◌<◌}
use Rattle.replay.proofs.seek.Given as goal

abbrev pub invariant-loop-left : goal.invariant-loop-left
invariant-loop-left l = (l.k < 512) × (l.first < 512)

abbrev pub decreases-loop-left : goal.decreases-loop-left
decreases-loop-left l = l.left
