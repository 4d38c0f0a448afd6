use Prim.Native.Nat.{◌-◌}
use lib.ListN.{length}
use Rattle.closed_walks.proofs.WriteLaws.{Writing}
use Rattle.closed_walks.proofs.write_fields.Given as goal

abbrev pub invariant-loop-at : goal.invariant-loop-at
invariant-loop-at l = Writing l.s l.order l.table l.initial.out l.at l.w l.i l.out

abbrev pub decreases-loop-at : goal.decreases-loop-at
decreases-loop-at l = length l.s - l.at
