use Rattle.std.proofs.lemmas.Result.{err_from_is_err_and}
use mathlib.Core.Path.{sym, ◌∙◌}
use mathlib.Core.List.{[]}
use native.Mathlib.Omega.{arith}
use Rattle.rewrite.proofs.OutcomeLaws.{rewrite-refused, rewrite-little}
use Rattle.normalizing.proofs.check_only.Goals as goal

pub returns-in_err-check : goal.returns-in_err-check
returns-in_err-check c = let p = err_from_is_err_and c.from_residual.result c.from_residual.ensures.1 in
    rw (p.1, p.2) ((rewrite-refused _ _ _ c.check.ensures _ _ c.in_err-check.was).0)

pub returns : goal.returns
returns c = (rewrite-little _ [] (omega arith) (sym c.check.ensures ∙ c.in_ok-check.was)).0
