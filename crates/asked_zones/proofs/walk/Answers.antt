use mathlib.Core.Path.{sym, ◌∙◌}
use Rattle.pool.proofs.PoolLaws.{taken, failed, ready}
use Rattle.locate.proofs.WalkingLaws.{pool-fault, pool-on}
use Rattle.asked_zones.proofs.KnownLaws.{walked-any}
use Rattle.asked_zones.proofs.walk.Goals as goal

pub walk_zones-requires : goal.walk_zones-requires
walk_zones-requires c = (
  c.requires.0,
  ready _ _ _ c.requires.1 c.check_pool.ensures.1,
  (taken _ _ (sym c.in-Ok.is ∙ c.check_pool.ensures.0)).many,
)

pub returns-in-Err : goal.returns-in-Err
returns-in-Err c = (pool-fault _ _ _ _ _ _ (failed _ _ (sym c.in-Err.is ∙ c.check_pool.ensures.0)).fault, c.check_pool.ensures.1)

pub returns-in-Ok : goal.returns-in-Ok
returns-in-Ok c = (pool-on _ _ _ _ _ _ _ (taken _ _ (sym c.in-Ok.is ∙ c.check_pool.ensures.0)).all (walked-any c.walk_zones.ensures), c.check_pool.ensures.1)

pub slice_bounds-check_pool-count : goal.slice_bounds-check_pool-count
slice_bounds-check_pool-count c = c.requires.0.order

pub slice_bounds-check_pool-start : goal.slice_bounds-check_pool-start
slice_bounds-check_pool-start c = c.requires.0.order

pub slice_bounds-check_pool-end : goal.slice_bounds-check_pool-end
slice_bounds-check_pool-end c = c.requires.0.inside

pub check_pool-requires : goal.check_pool-requires
check_pool-requires c = c.requires.1

pub shape_of-starts-in-Err : goal.shape_of-starts-in-Err
shape_of-starts-in-Err c = c.check_pool.auto.starts

pub shape_of-starts-in-Ok : goal.shape_of-starts-in-Ok
shape_of-starts-in-Ok c = c.check_pool.auto.starts
