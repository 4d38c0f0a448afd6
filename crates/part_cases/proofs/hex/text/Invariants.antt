use Prim.Native.Nat.{◌≤◌}
use lib.ListN.{length}
use Rattle.part_cases.proofs.hex.text.Given as goal

abbrev pub invariant-loop : goal.invariant-loop
invariant-loop l = l.at ≤ length l.line
