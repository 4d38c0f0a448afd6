use Rattle.pool.proofs.FillLaws.{Filling}
use Rattle.closed_pools.proofs.index_strings.Given as goal

abbrev pub invariant-loop-i : goal.invariant-loop-i
invariant-loop-i l = Filling l.d l.from l.k l.initial.starts l.starts l.at l.i
