use native.Mathlib.Omega.{arith}
use mathlib.Core.Path.{sym, ◌∙◌}
use Rattle.pool.proofs.PoolLaws.{taken, failed, ready}
use Rattle.locate.specs.View.{part}
use Rattle.named_fields.proofs.SeenLaws.{room-strings}
use Rattle.named_questions.proofs.WalkingLaws.{named-fault, named-on}
use Rattle.named_questions.proofs.walk_named.Goals as goal

pub walk_fields-requires : goal.walk_fields-requires
walk_fields-requires c = (c.requires.0, ready _ _ _ c.requires.1 c.check_pool.ensures.1, (taken _ _ (sym c.in-Ok.is ∙ c.check_pool.ensures.0)).many, omega (arith, c.requires.2, room-strings (part c.args.d c.args.e c.args.s.now), (taken _ _ (sym c.in-Ok.is ∙ c.check_pool.ensures.0)).many), c.requires.3)

pub shape_of-starts-in-Err : goal.shape_of-starts-in-Err
shape_of-starts-in-Err c = c.check_pool.auto.starts

pub returns-in-Err : goal.returns-in-Err
returns-in-Err c = (named-fault _ _ _ _ _ _ (failed _ _ (sym c.in-Err.is ∙ c.check_pool.ensures.0)).fault, c.check_pool.ensures.1)

pub shape_of-starts-in-Ok : goal.shape_of-starts-in-Ok
shape_of-starts-in-Ok c = c.check_pool.auto.starts

pub shape_of-flags : goal.shape_of-flags
shape_of-flags c = c.walk_fields.auto.flags

pub returns-in-Ok : goal.returns-in-Ok
returns-in-Ok c = (named-on _ _ _ _ _ _ _ (taken _ _ (sym c.in-Ok.is ∙ c.check_pool.ensures.0)).all c.walk_fields.ensures, c.check_pool.ensures.1)

pub slice_bounds-check_pool-count : goal.slice_bounds-check_pool-count
slice_bounds-check_pool-count c = c.requires.0.order

pub slice_bounds-check_pool-start : goal.slice_bounds-check_pool-start
slice_bounds-check_pool-start c = c.requires.0.order

pub slice_bounds-check_pool-end : goal.slice_bounds-check_pool-end
slice_bounds-check_pool-end c = c.requires.0.inside

pub check_pool-requires : goal.check_pool-requires
check_pool-requires c = c.requires.1
