use mir.Syntax.{w64}
use mathlib.Core.Path.{◌∙◌}
use mir.Facts.{to_z-of_z}
use Rattle.lines.proofs.QuestionLaws.{digits-none, digits-some}
use Rattle.parsed_lines.proofs.behind_digits.Goals as goal

pub returns-then-i-eq0 : goal.returns-then-i-eq0
returns-then-i-eq0 c = digits-none _ _ _ _ _ c.if-i-eq0.true

pub returns : goal.returns
returns c = c.parse_mark.ensures ∙ rw (to_z-of_z {w = w64} {z = c.signed_ticks.result} (record { sfits = c.signed_ticks.type_inv }), c.signed_ticks.ensures) (digits-some _ _ _ _ _ c.if-i-eq0.false)
