use mathlib.Core.Path.{◌≡◌}
use Prim.Native.Nat.{◌≤◌, ◌-◌}
use lib.ListN.{drop}
use Rattle.string_order.specs.Order.{ordering}
use Rattle.string_order.proofs.compare_fours.Given as goal

abbrev pub invariant-loop-i : goal.invariant-loop-i
invariant-loop-i l = (l.i ≤ l.n) × (ordering (drop l.i l.a) (drop l.i l.b) ≡ ordering (drop l.from l.a) (drop l.from l.b))

abbrev pub decreases-loop-i : goal.decreases-loop-i
decreases-loop-i l = l.n - l.i
