use mathlib.Core.Path.{◌≡◌}
use mathlib.Core.List.{List}
use Prim.Native.Nat.{ℕ}
use lib.ListN.{length}
use Rattle.closed_pools.proofs.TextsLaws.{Going}
use Rattle.closed_pools.proofs.texts_size.Given as goal

abbrev pub invariant-loop-k : goal.invariant-loop-k
invariant-loop-k l = (done : List ℕ) × Going l.d l.order l.k-index done × (l.sum ≡ length done)
