use mathlib.Core.Path.{sym, ◌∙◌}
use native.Mathlib.Omega.{arith}
use Rattle.zone_mentions.proofs.ShortLaws.{not_short, short-at}
use Rattle.zone_mentions.proofs.short_start.Goals as goal

pub returns-then-half_hours-2 : goal.returns-then-half_hours-2
returns-then-half_hours-2 c = short-at _ _ _ _ (omega (arith, c.if-s-at-lt4.false)) (sym c.half_hours.ensures ∙ c.if-half_hours.true) (sym c.half_hours-then-half_hours.ensures ∙ c.if-half_hours-2.true) c.hours_at.ensures

pub returns-then-s-at-lt4 : goal.returns-then-s-at-lt4
returns-then-s-at-lt4 c = not_short _ _ _

pub returns-else-half_hours-2 : goal.returns-else-half_hours-2
returns-else-half_hours-2 c = not_short _ _ _

pub returns-else-half_hours : goal.returns-else-half_hours
returns-else-half_hours c = not_short _ _ _
