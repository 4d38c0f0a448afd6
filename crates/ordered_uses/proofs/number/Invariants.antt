use Rattle.use_order.proofs.FillLaws.{Numbering}
use Rattle.ordered_uses.proofs.number.Given as goal

abbrev pub invariant-loop-i : goal.invariant-loop-i
invariant-loop-i l = Numbering l.order l.initial.numbers l.numbers l.i
