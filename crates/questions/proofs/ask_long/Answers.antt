use Rattle.pool.proofs.PoolLaws.{room_most}
use Rattle.questions.proofs.ask_long.Goals as goal

pub ask_with-requires : goal.ask_with-requires
ask_with-requires c = (c.requires.0, room_most _, c.requires.1)

pub returns : goal.returns
returns c = c.ask_with.ensures
