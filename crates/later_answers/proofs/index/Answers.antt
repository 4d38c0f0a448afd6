use mathlib.Core.Path.{sym, ◌∙◌}
use Rattle.later_answers.proofs.NameLaws.{index-taken, index-none}
use Rattle.later_answers.proofs.index.Goals as goal

pub returns-in-Ok : goal.returns-in-Ok
returns-in-Ok c = index-taken _ _ _ _ c.requires (sym c.in-Ok.is ∙ c.check_pool.ensures.0) c.check_pool.ensures.1

pub returns-in-Err : goal.returns-in-Err
returns-in-Err c = index-none _ _ _ c.check_pool.ensures.1
