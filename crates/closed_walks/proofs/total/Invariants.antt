use Prim.Native.Nat.{◌-◌}
use lib.ListN.{length}
use Rattle.closed_walks.proofs.WriteLaws.{Measuring}
use Rattle.closed_walks.proofs.total.Given as goal

abbrev pub invariant-loop-at : goal.invariant-loop-at
invariant-loop-at l = Measuring l.s l.order l.table (length l.initial.sizes) l.at l.n l.i l.sizes

abbrev pub decreases-loop-at : goal.decreases-loop-at
decreases-loop-at l = length l.s - l.at
