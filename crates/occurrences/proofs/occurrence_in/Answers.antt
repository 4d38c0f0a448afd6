use native.Mathlib.Omega.{arith}
use Rattle.occurrences.specs.Rules.{occurrence}
use Rattle.occurrences.proofs.RuleLaws.{Room, room}
use Rattle.occurrences.proofs.occurrence_in.Goals as goal
use Rattle.occurrences.proofs.occurrence_in.Goals.{After-falls_on}

at : (c : goal.After-falls_on) → Room c.args.r c.args.k
at c = room _ _ c.requires.3 c.requires.0 c.requires.1

pub overflow_add-result : goal.overflow_add-result
overflow_add-result c = omega (arith, at c)

pub overflow_mul-result : goal.overflow_mul-result
overflow_mul-result c = omega (arith, at c)

pub overflow_add-result-2 : goal.overflow_add-result-2
overflow_add-result-2 c = omega (arith, at (goal.at.overflow_add-result-2 c).After-falls_on)

pub overflow_sub-result : goal.overflow_sub-result
overflow_sub-result c = omega (arith, at (goal.at.overflow_sub-result c).After-falls_on)

pub returns : goal.returns
unfolding occurrence
returns c = omega arith
