use mir.Facts.{to_z-of_z}
use Rattle.wall_times.specs.WallTime.{MapsTo}
use Rattle.capi.proofs.SmallLaws.{map-small}
use Rattle.capi.proofs.nzd_map_local.Goals as goal
use Rattle.capi.proofs.nzd_map_local.Goals.{After-give_mapping-arg-1}

mapped : (c : goal.After-give_mapping-arg-1) → MapsTo c.args.file.now c.args.id.now c.args.local c.map_local-m.result
mapped c = rw (to_z-of_z c.ranges.local) at c.map_local-m.ensures

pub give_mapping-requires : goal.give_mapping-requires
give_mapping-requires c = map-small _ _ _ _ (mapped c)

pub returns : goal.returns
returns c = record { mapping = c.map_local-m.result; maps = mapped (goal.at.returns c).After-give_mapping-arg-1; gives = c.give_mapping.ensures }
