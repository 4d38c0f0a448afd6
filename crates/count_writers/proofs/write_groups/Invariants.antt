use Prim.Native.Nat.{◌-◌}
use Rattle.counts.proofs.GroupWriteLaws.{Storing}
use Rattle.count_writers.proofs.write_groups.Given as goal

abbrev pub invariant-loop-i : goal.invariant-loop-i
invariant-loop-i l = Storing l.v l.initial.out l.rest l.i l.out

abbrev pub decreases-loop-i : goal.decreases-loop-i
decreases-loop-i l = l.n - l.i
