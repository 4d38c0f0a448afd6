use Prim.Native.Nat.{◌-◌}
use Rattle.later_answers.proofs.WalkLaws.{Listing}
use Rattle.later_answers.proofs.put_rows.Given as goal

abbrev pub invariant-loop-i : goal.invariant-loop-i
invariant-loop-i l = Listing l.file l.v l.count l.ending l.start l.initial.rows l.i l.e l.x l.rows

abbrev pub decreases-loop-i : goal.decreases-loop-i
decreases-loop-i l = l.n - l.i
