use Rattle.local_times.proofs.ScanLaws.{Scanning}
use Rattle.local_lookups.proofs.read_intervals.Given as goal

abbrev pub invariant-loop-left : goal.invariant-loop-left
invariant-loop-left l = Scanning l.pool l.l l.s l.at l.n l.left l.place l.c

abbrev pub decreases-loop-left : goal.decreases-loop-left
decreases-loop-left l = l.left
