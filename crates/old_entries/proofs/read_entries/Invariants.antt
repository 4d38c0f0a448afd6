use Prim.Native.Nat.{◌-◌}
use Rattle.old_dictionaries.proofs.EntryLaws.{Going}
use Rattle.old_entries.proofs.read_entries.Given as goal

abbrev pub invariant-loop-done : goal.invariant-loop-done
invariant-loop-done l = Going l.s l.from l.n l.done l.lo l.hi l.at

abbrev pub decreases-loop-done : goal.decreases-loop-done
decreases-loop-done l = l.n - l.done
