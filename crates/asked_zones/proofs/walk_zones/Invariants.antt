use Prim.Native.Nat.{◌-◌}
use lib.ListN.{length}
use Rattle.asked_zones.proofs.KnownLaws.{Walked}
use Rattle.asked_zones.proofs.walk_zones.Given as goal

abbrev pub invariant-loop-n : goal.invariant-loop-n
invariant-loop-n l = Walked l.known l.id l.s l.start l.end l.at l.prev

abbrev pub decreases-loop-n : goal.decreases-loop-n
decreases-loop-n l = length l.s - l.at
