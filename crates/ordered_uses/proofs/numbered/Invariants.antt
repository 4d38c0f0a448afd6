use mathlib.Core.Path.{◌≡◌}
use mathlib.Core.List.{◌++◌}
use Prim.Native.Nat.{◌≤◌}
use lib.ListN.{length, take, drop}
use Rattle.use_order.specs.Order.{numbers_of}
use Rattle.ordered_uses.proofs.numbered.Given as goal

abbrev pub invariant-loop-key : goal.invariant-loop-key
invariant-loop-key l = (l.key-index ≤ length l.initial.keys) × (length l.keys ≡ length l.initial.keys) × (l.keys ≡ numbers_of (take l.key-index l.initial.keys) ++ drop l.key-index l.initial.keys)
