use Rattle.unordered_keys.specs.Keys.{keys_in}
use Prim.Native.Nat.{◌-◌}
use Rattle.ids.proofs.FindLaws.{Halving}
use Rattle.unordered_keys.proofs.find.Given as goal

abbrev pub invariant-loop-lo : goal.invariant-loop-lo
invariant-loop-lo l = Halving (keys_in l.s l.starts l.ends l.n) l.order l.from l.to l.x l.lo l.hi l.back

abbrev pub decreases-loop-lo : goal.decreases-loop-lo
decreases-loop-lo l = l.hi - l.lo
