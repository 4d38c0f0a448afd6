use Prim.Native.Nat.{◌-◌}
use lib.ListN.{length}
use Rattle.field_search.proofs.SearchLaws.{Seeking}
use Rattle.field_search.proofs.seek.Given as goal

abbrev pub invariant-loop-i : goal.invariant-loop-i
invariant-loop-i l = Seeking l.id l.s l.at l.prev

abbrev pub decreases-loop-i : goal.decreases-loop-i
decreases-loop-i l = length l.s - l.at
