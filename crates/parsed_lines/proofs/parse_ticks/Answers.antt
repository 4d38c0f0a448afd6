use mathlib.Core.Path.{◌∙◌}
use Rattle.base.proofs.Parts.{part-from}
use Rattle.lines.proofs.QuestionLaws.{ticks-none, ticks-minus-sign, ticks-no-sign}
use Rattle.parsed_lines.proofs.parse_ticks.Goals as goal

pub returns-then-s-eq0 : goal.returns-then-s-eq0
returns-then-s-eq0 c = ticks-none _ _ c.if-s-eq0.true

pub returns-then-s-eq45 : goal.returns-then-s-eq45
returns-then-s-eq45 c = c.parse_digits.ensures ∙ rw (part-from 1 c.args.s.now) (ticks-minus-sign _ _ c.if-s-eq0.false c.if-s-eq45.true)

pub returns : goal.returns
returns c = c.parse_digits-2.ensures ∙ ticks-no-sign _ _ c.if-s-eq0.false c.if-s-eq45.false
