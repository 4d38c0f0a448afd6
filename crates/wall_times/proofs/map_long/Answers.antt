use Rattle.pool.proofs.PoolLaws.{room_most}
use Rattle.wall_times.proofs.map_long.Goals as goal

pub map_with-requires : goal.map_with-requires
map_with-requires c = (c.requires, room_most _)
