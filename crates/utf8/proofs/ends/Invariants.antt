use mathlib.Core.Path.{◌≡◌}
use Prim.Native.Nat.{◌+◌, ◌-◌, ◌≤◌}
use lib.ListN.{take, drop}
use Rattle.utf8.specs.Utf8.{chars}
use Rattle.utf8.proofs.ends.Given as goal

abbrev pub invariant-loop-i : goal.invariant-loop-i
invariant-loop-i l = (l.i ≤ l.n) × (chars l.n l.lo l.hi (take l.n (drop l.at l.s)) ≡ chars (l.n - l.i) l.l l.h (take (l.n - l.i) (drop (l.at + l.i) l.s)))

abbrev pub decreases-loop-i : goal.decreases-loop-i
decreases-loop-i l = l.n - l.i
