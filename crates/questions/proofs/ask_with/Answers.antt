use mathlib.Core.Path.{sym, ap, ◌∙◌}
use Rattle.pool.proofs.PoolLaws.{ready}
use Rattle.locate.proofs.WalkingLaws.{located-out}
use Rattle.questions.specs.View.{outcome_at}
use Rattle.questions.proofs.ask_with.Goals as goal

pub answer_at-requires : goal.answer_at-requires
answer_at-requires c = (
  c.requires.0,
  ready _ _ _ c.requires.1 c.walk-l.ensures.1,
  c.requires.2,
  (located-out c.walk-l.ensures.0).0,
)

pub returns : goal.returns
returns c = c.answer_at.ensures ∙ ap (outcome_at c.args.edition c.args.t) (sym (located-out c.walk-l.ensures.0).1)
