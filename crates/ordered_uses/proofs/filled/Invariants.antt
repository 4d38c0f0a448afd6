use Rattle.use_order.proofs.FillLaws.{Filling}
use Rattle.ordered_uses.proofs.filled.Given as goal

abbrev pub invariant-loop-i : goal.invariant-loop-i
invariant-loop-i l = Filling l.uses l.initial.keys l.keys l.i l.n
