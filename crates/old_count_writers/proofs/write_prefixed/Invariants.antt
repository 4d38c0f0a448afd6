use Rattle.old_counts.proofs.OldCountWriteLaws.{Storing}
use Rattle.old_count_writers.proofs.write_prefixed.Given as goal

abbrev pub invariant-loop-i : goal.invariant-loop-i
invariant-loop-i l = Storing l.n l.v l.initial.out l.rest l.i l.out

abbrev pub decreases-loop-i : goal.decreases-loop-i
decreases-loop-i l = l.i
