use Rattle.aliases.specs.Dictionary.{target_of}
use Rattle.old_named_questions.specs.View.{entries_of}
use Rattle.old_named_questions.proofs.TargetLaws.{Looking}
use Rattle.old_name_answers.proofs.find_in.Given as goal

abbrev pub invariant-loop-left : goal.invariant-loop-left
invariant-loop-left l = Looking l.d l.x (target_of (entries_of l.d) l.x) l.left l.at

abbrev pub decreases-loop-left : goal.decreases-loop-left
decreases-loop-left l = l.left
