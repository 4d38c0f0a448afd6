use Rattle.std.proofs.lemmas.Result.{err_from_is_err_and}
use Rattle.field_readers.proofs.TakeLaws.{pool-refused, pool-kept}
use Rattle.check_steps.proofs.take_pool.Goals as goal

pub check_pool-c-requires : goal.check_pool-c-requires
check_pool-c-requires c = c.requires.2

pub returns-in_err-n : goal.returns-in_err-n
returns-in_err-n c = let p = err_from_is_err_and c.from_residual.result c.from_residual.ensures.1 in
    rw (p.1, p.2) (pool-refused _ _ _ _ _ _ _ c.check_pool-c.ensures _ c.in_err-n.was)

pub returns : goal.returns
returns c = pool-kept _ _ _ _ _ _ _ c.check_pool-c.ensures _ c.in_ok-n.was c.requires.0 c.requires.1 c.requires.2
