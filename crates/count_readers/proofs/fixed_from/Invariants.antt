use mathlib.Core.Path.{◌≡◌}
use Prim.Native.Nat.{◌+◌, ◌*◌, ◌-◌, ◌^◌, ◌≤◌}
use lib.ListN.{drop}
use Rattle.counts.specs.Fixed.{fixed_from}
use Rattle.count_readers.proofs.fixed_from.Given as goal

abbrev pub invariant-loop-i : goal.invariant-loop-i
invariant-loop-i l = (l.i ≤ l.n) × (fixed_from (l.n - l.i) l.v (drop l.i l.s) ≡ fixed_from l.n l.high l.s) × ((l.v + 1) * 256 ^ (l.n - l.i) ≤ 2 ^ 64)

abbrev pub decreases-loop-i : goal.decreases-loop-i
decreases-loop-i l = l.n - l.i
