use Prim.Native.Nat.{◌-◌}
use Rattle.counts.proofs.AnyGroupLaws.{Reading}
use Rattle.count_readers.proofs.read_any.Given as goal

abbrev pub invariant-loop-i : goal.invariant-loop-i
invariant-loop-i l = Reading l.top l.s l.v l.unit l.i

abbrev pub decreases-loop-i : goal.decreases-loop-i
decreases-loop-i l = 4 - l.i
