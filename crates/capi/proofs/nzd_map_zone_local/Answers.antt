use mir.Facts.{to_z-of_z}
use Rattle.zone_wall_times.specs.ZoneMapping.{MapsZone}
use Rattle.zone_replies.specs.Zones.{zone_by}
use Rattle.capi.proofs.ZoneLaws.{zone-map-small}
use Rattle.capi.proofs.nzd_map_zone_local.Goals as goal
use Rattle.capi.proofs.nzd_map_zone_local.Goals.{After-give_mapping-arg-1}

mapped : (c : goal.After-give_mapping-arg-1) → MapsZone c.args.file.now (zone_by c.args.zone.now) c.args.local c.map_zone-m.result
mapped c = rw (to_z-of_z c.ranges.local, c.zone_by-v.ensures) at c.map_zone-m.ensures

pub give_mapping-requires : goal.give_mapping-requires
give_mapping-requires c = zone-map-small _ _ _ _ (mapped c)

pub returns : goal.returns
returns c = record { mapping = c.map_zone-m.result; maps = mapped (goal.at.returns c).After-give_mapping-arg-1; gives = c.give_mapping.ensures }
