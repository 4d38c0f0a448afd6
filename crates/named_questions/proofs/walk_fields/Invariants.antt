use mathlib.Core.Path.{◌≡◌}
use Prim.Native.Nat.{◌-◌}
use lib.ListN.{length}
use Rattle.named_questions.proofs.WalkingLaws.{Walking}
use Rattle.named_questions.proofs.walk_fields.Given as goal

abbrev pub invariant-loop-n : goal.invariant-loop-n
invariant-loop-n l = Walking l.name l.s l.start l.end l.at l.prev l.flags × (length l.flags ≡ length l.initial.flags)

abbrev pub decreases-loop-n : goal.decreases-loop-n
decreases-loop-n l = length l.s - l.at
