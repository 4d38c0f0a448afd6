use mir.Facts.{to_z-of_z}
use Rattle.zone_wall_times.proofs.ZoneMapLaws.{zone-denied, zone-counted}
use Rattle.zone_wall_times.proofs.map_zone.Goals as goal

pub returns-in-Err : goal.returns-in-Err
returns-in-Err c = zone-denied _ _ _ _ _ _ _ _ c.lent.ensures c.room-count.ensures c.lent-zone.ensures (rw (to_z-of_z c.ranges.local) at c.local_number-l.ensures) c.find.ensures _ _ c.in-Err.is c.place_in.ensures

pub returns-in-Ok : goal.returns-in-Ok
returns-in-Ok c = zone-counted _ _ _ _ _ _ _ _ c.lent.ensures c.room-count.ensures c.lent-zone.ensures (rw (to_z-of_z c.ranges.local) at c.local_number-l.ensures) c.find.ensures _ _ c.in-Ok.is c.in_ticks.ensures
