use Rattle.closed_walks.proofs.CountLaws.{zone-fits, zone-counted}
use Rattle.closed_walks.proofs.count_field.Goals as goal

pub count_zone-requires : goal.count_zone-requires
count_zone-requires c = zone-fits _ _ _ c.requires.0 c.if-i-eq1.true c.requires.1

pub returns-then-i-eq1 : goal.returns-then-i-eq1
returns-then-i-eq1 c = zone-counted _ _ _ c.requires.0 c.if-i-eq1.true _ c.count_zone.ensures
