use Prim.Native.Nat.{◌-◌, ◌<◌}
use lib.ListN.{length}
use Rattle.extents.proofs.ExtentLaws.{Coming}
use Rattle.extents.proofs.whole_end.Given as goal

abbrev pub invariant-loop-at : goal.invariant-loop-at
invariant-loop-at l = Coming l.s (record { at = l.initial.at; prev = l.initial.prev }) (record { at = l.at; prev = l.prev }) × (0 < l.at)

abbrev pub decreases-loop-at : goal.decreases-loop-at
decreases-loop-at l = length l.s - l.at
