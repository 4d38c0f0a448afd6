use Rattle.pool.proofs.PoolLaws.{room_most}
use Rattle.starts.proofs.fill_long.Goals as goal

pub fill_with-requires : goal.fill_with-requires
fill_with-requires c = (c.requires, room_most _)
