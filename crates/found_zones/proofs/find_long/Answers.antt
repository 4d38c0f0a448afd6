use Rattle.pool.proofs.PoolLaws.{room_most}
use Rattle.found_zones.proofs.find_long.Goals as goal

pub find_with-requires : goal.find_with-requires
find_with-requires c = (c.requires, room_most _)

pub returns : goal.returns
returns c = c.find_with.ensures
