use mathlib.Core.List.{List}
use Prim.Native.Nat.{ℕ}
use Rattle.pieces.specs.View.{Put}
use Rattle.closed_pools.proofs.TextsLaws.{Going}
use Rattle.closed_pools.proofs.write_texts.Given as goal

abbrev pub invariant-loop-k : goal.invariant-loop-k
invariant-loop-k l = (done : List ℕ) × Going l.d l.order l.k-index done × Put done l.initial.out l.w l.out
