use Prim.Native.Nat.{◌+◌, ◌-◌}
use Rattle.ids.proofs.MergeLaws.{Merging}
use Rattle.ids.proofs.merge.Given as goal

abbrev pub invariant-loop-left : goal.invariant-loop-left
invariant-loop-left l = Merging l.initial.order (l.m + l.b) l.b l.order l.left l.to

abbrev pub decreases-loop-left : goal.decreases-loop-left
decreases-loop-left l = l.left
