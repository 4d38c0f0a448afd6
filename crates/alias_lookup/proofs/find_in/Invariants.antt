use Rattle.pool.specs.Pool.{strings_of}
use Rattle.alias_lookup.proofs.FindLaws.{Looking}
use Rattle.alias_lookup.proofs.find_in.Given as goal

abbrev pub invariant-loop-left : goal.invariant-loop-left
invariant-loop-left l = Looking (strings_of l.pool) l.d l.id l.left l.at

abbrev pub decreases-loop-left : goal.decreases-loop-left
decreases-loop-left l = l.left
