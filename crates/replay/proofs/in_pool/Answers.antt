use mathlib.Core.Path.{sym, ◌∙◌}
use Rattle.pool.proofs.PoolLaws.{taken, failed, ready}
use Rattle.replay.proofs.OpenLaws.{refused-agrees, first-is-wrong, pool-read, pool-refuses}
use Rattle.replay.proofs.in_pool.Goals as goal

pub in_zones-requires : goal.in_zones-requires
in_zones-requires c = (
  c.requires.1,
  pool-read _ _ _ c.requires.2 _ _ (taken _ _ (sym c.in-Ok.is ∙ c.check_pool.ensures.0)).all,
  ready _ _ _ c.requires.3 c.check_pool.ensures.1,
  (taken _ _ (sym c.in-Ok.is ∙ c.check_pool.ensures.0)).many,
)

pub returns-in-Err : goal.returns-in-Err
returns-in-Err c = first-is-wrong _ _ _ _ (refused-agrees _ _ _ _ _ _ (pool-refuses _ _ _ c.requires.2 _ (failed _ _ (sym c.in-Err.is ∙ c.check_pool.ensures.0)).fault _)) _ c.requires.0
