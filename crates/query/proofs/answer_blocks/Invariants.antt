use Prim.Native.Nat.{◌≤◌}
use lib.ListN.{length}
use Rattle.query.proofs.answer_blocks.Given as goal

abbrev pub invariant-loop : goal.invariant-loop
invariant-loop g l = l.n ≤ length l.held
