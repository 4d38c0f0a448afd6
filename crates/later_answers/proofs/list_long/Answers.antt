use Rattle.pool.proofs.PoolLaws.{room_most}
use Rattle.later_answers.proofs.list_long.Goals as goal

pub list_with-requires : goal.list_with-requires
list_with-requires c = (c.requires.0, c.requires.1, room_most _)
