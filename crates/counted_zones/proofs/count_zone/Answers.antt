use native.Mathlib.Omega.{arith}
use Rattle.counted_zones.proofs.CountLaws.{room-less}
use Rattle.counted_zones.proofs.BodyLaws.{zone-id, zone-body, zone-names}
use Rattle.counted_zones.proofs.count_zone.Goals as goal

pub count_name-at-requires : goal.count_name-at-requires
count_name-at-requires c = (zone-id _ c.requires.0, room-less _ _ _ c.requires.1 (omega arith))

pub count_body-requires : goal.count_body-requires
count_body-requires c = zone-body _ c.requires.0 _ _ _ c.count_name-at.ensures c.requires.1

pub returns : goal.returns
returns c = zone-names _ c.requires.0 _ _ _ c.count_name-at.ensures _ c.count_body.ensures
