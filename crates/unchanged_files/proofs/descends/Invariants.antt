use Prim.Native.Nat.{◌-◌}
use lib.ListN.{length}
use Rattle.unchanged_files.proofs.UseLaws.{Descending}
use Rattle.unchanged_files.proofs.descends.Given as goal

abbrev pub invariant-loop-i : goal.invariant-loop-i
invariant-loop-i l = Descending l.uses l.i l.bad

abbrev pub decreases-loop-i : goal.decreases-loop-i
decreases-loop-i l = length l.uses - l.i
