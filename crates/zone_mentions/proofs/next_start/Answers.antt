use Rattle.zone_mentions.proofs.ShortLaws.{short-is}
use Rattle.zone_mentions.proofs.next_start.Goals as goal

pub returns-then-m-gt0 : goal.returns-then-m-gt0
returns-then-m-gt0 c = short-is _ _ _ _ c.short_start-m.ensures c.if-m-gt0.true
