use mir.Facts.{to_z-of_z}
use Rattle.wall_times.proofs.MapLaws.{map_is}
use Rattle.wall_times.proofs.map_local.Goals as goal

pub returns : goal.returns
returns c = map_is _ _ _ _ _ (rw (to_z-of_z c.ranges.local) at c.local_number-l.ensures) c.map_number.ensures
