use Rattle.std.specs.Prelude.{Ok}
use mathlib.Core.Path.{sym, ap, ◌∙◌}
use Rattle.lookups.proofs.LookupLaws.{answer-is, fixed-is, before-tail, from_tail, tail-ok}
use Rattle.zone_lookups.proofs.find.Goals as goal

pub returns-then-t-tail : goal.returns-then-t-tail
returns-then-t-tail c = before-tail _ _ _ _ c.if-t-tail.true c.held_until-then-t-tail.ensures ∙
    answer-is _ _ _ _ _ _ c.requires
    (sym c.in-Tailed.is ∙
    c.read_zone.ensures)

pub in_tail-requires : goal.in_tail-requires
in_tail-requires c = (
  c.requires,
  tail-ok _ _ _ _ _ _ _ _
      (sym c.in-Tailed.is ∙ c.read_zone.ensures),
)

pub returns-in-Refused : goal.returns-in-Refused
returns-in-Refused c = answer-is _ _ _ _ _ _ c.requires
    (sym c.in-Refused.is ∙ c.read_zone.ensures)

pub returns-in-Fixed : goal.returns-in-Fixed
returns-in-Fixed c = fixed-is _ _ _ _ _ _ _ _ _ _ c.requires
    (sym c.in-Fixed.is ∙ c.read_zone.ensures) c.fixed_name-name.ensures

pub returns-in-Listed : goal.returns-in-Listed
returns-in-Listed c = ap Ok c.held_until.ensures ∙
    answer-is _ _ _ _ _ _ c.requires
    (sym c.in-Listed.is ∙ c.read_zone.ensures)

pub returns-else-t-tail : goal.returns-else-t-tail
returns-else-t-tail c = from_tail _ _ _ _ c.if-t-tail.false c.in_tail.ensures ∙
    answer-is _ _ _ _ _ _ c.requires
    (sym c.in-Tailed.is ∙
    c.read_zone.ensures)
