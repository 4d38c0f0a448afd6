use Rattle.string_search.proofs.SearchLaws.{Skipping}
use Rattle.string_search.proofs.nth_string.Given as goal

abbrev pub invariant-loop-left : goal.invariant-loop-left
invariant-loop-left l = Skipping l.d l.from l.k l.left l.at

abbrev pub decreases-loop-left : goal.decreases-loop-left
decreases-loop-left l = l.left
