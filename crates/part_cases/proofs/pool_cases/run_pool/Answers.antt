use mathlib.Core.Path.{sym, ◌∙◌}
use Rattle.pool.proofs.PoolLaws.{room_most, taken, ready}
use Rattle.part_cases.proofs.pool_cases.run_pool.Goals as goal

pub check_pool-c-requires : goal.check_pool-c-requires
check_pool-c-requires g c = room_most _

pub show_strings-requires : goal.show_strings-requires
show_strings-requires g c = (ready _ _ _ (room_most _) c.check_pool-c.ensures.1, (taken _ _ (sym c.in-Ok.is ∙ c.check_pool-c.ensures.0)).many)
