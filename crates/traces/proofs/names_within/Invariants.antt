use mathlib.Core.Path.{◌≡◌}
use Prim.Native.Nat.{◌+◌, ◌*◌, ◌≤◌}
use lib.ListN.{length}
use Rattle.traces.specs.Trace.{names_within}
use Rattle.traces.proofs.names_within.Given as goal

abbrev pub invariant-loop-left : goal.invariant-loop-left
invariant-loop-left l = (l.place + l.left * 20 ≤ length l.s) × (names_within l.n l.at l.size l.s ≡ names_within l.left l.place l.size l.s)

abbrev pub decreases-loop-left : goal.decreases-loop-left
decreases-loop-left l = l.left
