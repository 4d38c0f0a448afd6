use mathlib.Core.Path.{◌∙◌}
use Rattle.pool.proofs.PoolLaws.{ready}
use Rattle.named_questions.proofs.AskLaws.{named-outcome}
use Rattle.named_questions.proofs.ask_with.Goals as goal

pub walk_named-l-requires : goal.walk_named-l-requires
walk_named-l-requires c = (c.requires.0, c.requires.1, c.requires.2, c.requires.3)

pub answer_at-requires : goal.answer_at-requires
answer_at-requires c = (c.requires.0, ready _ _ _ c.requires.1 c.walk_named-l.ensures.1, c.requires.4, c.walk_named-l.ensures.0.within)

pub returns : goal.returns
returns c = c.answer_at.ensures ∙ named-outcome _ _ _ _ _ _ c.walk_named-l.ensures.0
