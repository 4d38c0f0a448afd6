use Prim.Native.Nat.{◌-◌}
use Rattle.pool.specs.Pool.{strings_of}
use Rattle.ids.proofs.FindLaws.{Halving}
use Rattle.ids.proofs.find.Given as goal

abbrev pub invariant-loop-lo : goal.invariant-loop-lo
invariant-loop-lo l = Halving (strings_of l.pool) l.order l.from l.to l.id l.lo l.hi l.back

abbrev pub decreases-loop-lo : goal.decreases-loop-lo
decreases-loop-lo l = l.hi - l.lo
