use Rattle.std.proofs.lemmas.Result.{err_from_is_err_and}
use Rattle.base.proofs.Parts.{Bytes}
use native.Mathlib.Omega.{arith}
use mathlib.Core.Path.{sym, ◌∙◌}
use Rattle.closing.proofs.CloseLaws.{walkable, below, close-refused, close-good as good-closed}
use Rattle.closing.proofs.close_pool.Goals as goal
use Rattle.closing.proofs.close_pool.Goals.{After-slice_known-1}

bytes : (c : goal.After-slice_known-1) → Bytes c.args.s.now
bytes c i = omega (arith, c.shared_slice_known-1.given i)

pub close_good-requires : goal.close_good-requires
close_good-requires c = let e = sym c.check.ensures ∙ c.in_ok-check.was in (walkable _ e (bytes (goal.at.close_good-requires c).After-slice_known-1), below _ e (bytes (goal.at.close_good-requires c).After-slice_known-1))

pub returns-in_err-check : goal.returns-in_err-check
returns-in_err-check c = let p = err_from_is_err_and c.from_residual.result c.from_residual.ensures.1 in
    rw (p.1, p.2) (close-refused _ _ _ c.check.ensures _ _ c.in_err-check.was)

pub returns : goal.returns
returns c = good-closed _ _ _ c.check.ensures c.in_ok-check.was _ _ c.close_good.ensures
