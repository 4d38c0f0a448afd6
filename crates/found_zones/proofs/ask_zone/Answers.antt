use mir.Facts.{to_z-of_z}
use Rattle.signed.proofs.IntegerLaws.{instant-finite}
use Rattle.found_zones.proofs.AskLaws.{zone-outside, zone-inside}
use Rattle.found_zones.proofs.ask_zone.Goals as goal

pub returns-then-t-eq0 : goal.returns-then-t-eq0
returns-then-t-eq0 c = zone-outside _ _ _ _ _ (rw (to_z-of_z c.ranges.ticks) at c.instant-t.ensures) c.if-t-eq0.true

pub answer_in-requires : goal.answer_in-requires
answer_in-requires c = instant-finite _ _ c.instant-t.ensures c.if-t-eq0.false

pub returns : goal.returns
returns c = zone-inside _ _ _ _ _ (rw (to_z-of_z c.ranges.ticks) at c.instant-t.ensures) c.if-t-eq0.false _ c.answer_in.ensures
