use mathlib.Core.Path.{sym, ap, ◌∙◌}
use Rattle.field_checks.specs.Check.{verdict_of}
use Rattle.check_steps.proofs.FlagLaws.{flags-checked}
use Rattle.checks.proofs.check_flags.Goals as goal

pub returns-in-Refused : goal.returns-in-Refused
returns-in-Refused c = (ap verdict_of (sym c.in-Refused.is ∙ c.walk-x.ensures.0), flags-checked _ _ _ _ c.walk-x.ensures.1 c.in-Refused.is)

pub returns-in-Bare : goal.returns-in-Bare
returns-in-Bare c = (ap verdict_of (sym c.in-Bare.is ∙ c.walk-x.ensures.0), flags-checked _ _ _ _ c.walk-x.ensures.1 c.in-Bare.is)

pub returns-in-WithText : goal.returns-in-WithText
returns-in-WithText c = (ap verdict_of (sym c.in-WithText.is ∙ c.walk-x.ensures.0), flags-checked _ _ _ _ c.walk-x.ensures.1 c.in-WithText.is)
