use Rattle.pool.proofs.PoolLaws.{room_most}
use Rattle.replay.proofs.indexed.Goals as goal

pub in_pool-requires : goal.in_pool-requires
in_pool-requires c = (c.requires.0, c.requires.1, c.requires.2, room_most _)
