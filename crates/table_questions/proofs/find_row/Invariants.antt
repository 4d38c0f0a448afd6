use Rattle.halving.specs.Looks.{Near}
use Rattle.table_questions.specs.View.{Seeks}
use Rattle.table_questions.proofs.find_row.Given as goal

abbrev pub invariant-loop-m : goal.invariant-loop-m
invariant-loop-m l = Seeks l.rows l.ticks l.b × Near l.m l.b.left

abbrev pub decreases-loop-m : goal.decreases-loop-m
decreases-loop-m l = l.m
