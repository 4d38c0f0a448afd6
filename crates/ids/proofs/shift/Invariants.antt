use Prim.Native.Nat.{◌≤◌}
use Rattle.ids.specs.Parts.{Shifted}
use Rattle.ids.proofs.shift.Given as goal

abbrev pub invariant-loop-i : goal.invariant-loop-i
invariant-loop-i l = (l.from ≤ l.i) × (l.i ≤ l.to) × Shifted l.initial.order l.i l.to l.many l.order

abbrev pub decreases-loop-i : goal.decreases-loop-i
decreases-loop-i l = l.i
