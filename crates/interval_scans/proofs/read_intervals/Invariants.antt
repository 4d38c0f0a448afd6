use Rattle.intervals.proofs.ScanLaws.{Scanning}
use Rattle.intervals.proofs.FormLaws.{Forming}
use Rattle.interval_scans.proofs.read_intervals.Given as goal

abbrev pub invariant-loop-left : goal.invariant-loop-left
invariant-loop-left l = Scanning l.pool l.t l.s l.at l.n l.left l.place l.c × Forming l.pool l.t l.s l.at l.n l.preferred l.left l.place l.c l.form

abbrev pub decreases-loop-left : goal.decreases-loop-left
decreases-loop-left l = l.left
