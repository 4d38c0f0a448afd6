use Prim.Native.Nat.{◌-◌}
use Rattle.locations.proofs.FindLaws.{Seeking}
use Rattle.location_reads.proofs.read_locations.Given as goal

abbrev pub invariant-loop-i : goal.invariant-loop-i
invariant-loop-i l = Seeking l.field l.pool l.s l.at l.n l.number l.i l.place l.found

abbrev pub decreases-loop-i : goal.decreases-loop-i
decreases-loop-i l = l.n - l.i
