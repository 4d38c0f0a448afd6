use Rattle.locations.proofs.ReadLaws.{Counting}
use Rattle.location_reads.proofs.skip_countries.Given as goal

abbrev pub invariant-loop-left : goal.invariant-loop-left
invariant-loop-left l = Counting l.pool l.s l.at l.n l.left l.place

abbrev pub decreases-loop-left : goal.decreases-loop-left
decreases-loop-left l = l.left
