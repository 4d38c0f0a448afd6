use mathlib.Core.Path.{◌∙◌, sym}
use Rattle.interval_runs.proofs.TicksLaws.{no-ticks, ticks-taken, ticks-same}
use Rattle.interval_runs.proofs.ticks_step.Goals as goal

pub returns-then-s-at-ne2 : goal.returns-then-s-at-ne2
returns-then-s-at-ne2 c = no-ticks _ _ _ _

pub returns-then-t-prev : goal.returns-then-t-prev
returns-then-t-prev c = no-ticks _ _ _ _

pub returns-then-same_details : goal.returns-then-same_details
returns-then-same_details c = ticks-same _ _ _ _ _ c.requires.0 c.requires.2 c.if-s-at-ne2.false c.ticks_at-t.ensures c.if-t-prev.false _ c.requires.3 _ c.same_details.ensures c.if-same_details.true

pub returns-then-details_ok : goal.returns-then-details_ok
returns-then-details_ok c = ticks-taken _ _ _ _ _ c.requires.0 c.requires.2 c.if-s-at-ne2.false c.ticks_at-t.ensures c.if-t-prev.false (sym c.details_ok.ensures ∙ c.if-details_ok.true)

pub returns : goal.returns
returns c = no-ticks _ _ _ _
