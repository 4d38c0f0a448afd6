use Rattle.counted_zones.specs.Going.{Pairs}
use Prim.Native.Nat.{◌+◌, ◌-◌, ◌*◌, ◌≤◌}
use mathlib.Core.Path.{◌≡◌}
use Rattle.counted_zones.proofs.pairs.Given as goal

abbrev pub invariant-loop-left : goal.invariant-loop-left
invariant-loop-left l = Pairs l.s l.at l.j l.k (l.n - l.left) × (l.place ≡ l.at + 10 * (l.n - l.left)) × (l.left ≤ l.n)

abbrev pub decreases-loop-left : goal.decreases-loop-left
decreases-loop-left l = l.left
