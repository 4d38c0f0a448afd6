use mathlib.Core.Path.{◌∙◌}
use mir.Facts.{to_z-of_z}
use Rattle.signed.proofs.IntegerLaws.{instant-finite}
use Rattle.named_questions.proofs.AskLaws.{ask-outside, ask-inside}
use Rattle.named_questions.proofs.ask_named.Goals as goal

pub returns-then-t-eq0 : goal.returns-then-t-eq0
returns-then-t-eq0 c = ask-outside _ _ _ _ _ _ (rw (to_z-of_z c.ranges.ticks) at c.instant-t.ensures) c.if-t-eq0.true

pub ask_at-o-requires : goal.ask_at-o-requires
ask_at-o-requires c = instant-finite _ _ c.instant-t.ensures c.if-t-eq0.false

pub returns : goal.returns
returns c = c.finish.ensures ∙ ask-inside _ _ _ _ _ _ (rw (to_z-of_z c.ranges.ticks) at c.instant-t.ensures) c.if-t-eq0.false _ c.ask_at-o.ensures
