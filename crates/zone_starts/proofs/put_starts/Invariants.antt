use Rattle.zone_starts.proofs.PutLaws.{Putting}
use Rattle.zone_starts.proofs.put_starts.Given as goal

abbrev pub invariant-loop-left : goal.invariant-loop-left
invariant-loop-left l = Putting l.pool l.s l.n l.at l.initial.out l.left l.i l.place l.last l.out

abbrev pub decreases-loop-left : goal.decreases-loop-left
decreases-loop-left l = l.left
