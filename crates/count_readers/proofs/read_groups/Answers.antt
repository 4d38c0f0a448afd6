use Rattle.std.proofs.lemmas.Result.{err_from_is_err_and}
use Rattle.std.specs.Prelude.{Ok}
use native.Mathlib.Omega.{arith}
use mathlib.Core.Path.{◌≡◌, sym, ◌∙◌}
use Rattle.counts.specs.Groups.{any_groups}
use Rattle.counts.proofs.AnyGroupLaws.{any-group}
use Rattle.counts.proofs.ShortestLaws.{judged-refused, judged-one, judged-zero, judged-shortest}
use Rattle.count_readers.proofs.read_groups.Goals as goal
use Rattle.count_readers.proofs.read_groups.Goals.{In_ok-v}

value : (c : goal.In_ok-v) → Ok (c.in_ok-v.v, c.in_ok-v.n) ≡ any_groups 4 c.args.top c.args.s.now
value c = sym c.in_ok-v.was ∙ c.read_any.ensures

pub bounds-s-n : goal.bounds-s-n
bounds-s-n c = omega (arith, (any-group _ _ _ (value (goal.at.bounds-s-n c).In_ok-v)).within, c.if-n-gt1.true)

pub returns-then-s-n-eq0 : goal.returns-then-s-n-eq0
returns-then-s-n-eq0 c = judged-zero _ _ _ _ _ (value (goal.at.returns-then-s-n-eq0 c).In_ok-v) c.if-n-gt1.true c.if-s-n-eq0.true

pub returns-in_err-v : goal.returns-in_err-v
returns-in_err-v c = let p = err_from_is_err_and c.from_residual.result c.from_residual.ensures.1 in
    rw (p.1, p.2) (judged-refused _ _ _ _ (sym c.in_err-v.was ∙ c.read_any.ensures))

pub returns-else-s-n-eq0 : goal.returns-else-s-n-eq0
returns-else-s-n-eq0 c = judged-shortest _ _ _ _ _ (value (goal.at.returns-else-s-n-eq0 c).In_ok-v) c.if-n-gt1.true c.if-s-n-eq0.false

pub returns-else-n-gt1 : goal.returns-else-n-gt1
returns-else-n-gt1 c = judged-one _ _ _ _ _ (value (goal.at.returns-else-n-gt1 c).In_ok-v) c.if-n-gt1.false
