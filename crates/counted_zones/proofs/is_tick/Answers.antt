use Rattle.counted_zones.proofs.CountLaws.{no-tick, some-tick}
use Rattle.counted_zones.proofs.is_tick.Goals as goal

pub returns-then-s-at-ne2 : goal.returns-then-s-at-ne2
returns-then-s-at-ne2 c = no-tick _ _

pub returns-then-s-at-gt127 : goal.returns-then-s-at-gt127
returns-then-s-at-gt127 c = no-tick _ _

pub returns-then-s-at-gt127-2 : goal.returns-then-s-at-gt127-2
returns-then-s-at-gt127-2 c = no-tick _ _

pub returns : goal.returns
returns c = some-tick _ _ c.if-s-at-ne2.false c.if-s-at-gt127.false c.if-s-at-gt127-2.false
