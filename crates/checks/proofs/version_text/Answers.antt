use mathlib.Core.Path.{sym, ap, ◌∙◌}
use Rattle.field_checks.specs.Check.{text_given}
use Rattle.checks.proofs.version_text.Goals as goal

pub returns-in-Refused : goal.returns-in-Refused
returns-in-Refused c = ap text_given (sym c.in-Refused.is ∙ c.walk-x.ensures.0)

pub returns-in-Bare : goal.returns-in-Bare
returns-in-Bare c = ap text_given (sym c.in-Bare.is ∙ c.walk-x.ensures.0)

pub returns-in-WithText : goal.returns-in-WithText
returns-in-WithText c = ap text_given (sym c.in-WithText.is ∙ c.walk-x.ensures.0)
