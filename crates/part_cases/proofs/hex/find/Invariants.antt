use Prim.Native.Nat.{◌≤◌}
use lib.ListN.{length}
use Rattle.part_cases.proofs.hex.find.Given as goal

abbrev pub invariant-loop-i : goal.invariant-loop-i
invariant-loop-i l = (l.from ≤ l.i) × (l.i ≤ length l.s)
