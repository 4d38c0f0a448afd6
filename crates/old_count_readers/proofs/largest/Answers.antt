use Rattle.std.proofs.lemmas.Result.{err_from_is_err_and}
use native.Mathlib.Omega.{arith}
use mathlib.Core.Path.{ap, sym, ◌∙◌}
use Rattle.counts.proofs.FixedLaws.{fixed-read}
use Rattle.old_counts.specs.OldCount.{largest}
use Rattle.old_counts.proofs.OldCountLaws.{largest-below, largest-above, largest-in}
use Rattle.old_count_readers.proofs.largest.Goals as goal

pub returns-then-v-lt270549135 : goal.returns-then-v-lt270549135
returns-then-v-lt270549135 c = largest-below _ _ c.if-v-lt270549135.true ∙ ap largest (sym c.in_ok-v.was ∙ c.read_fixed.ensures)

pub returns-then-v-gt2147483647 : goal.returns-then-v-gt2147483647
returns-then-v-gt2147483647 c = largest-above _ _ c.if-v-lt270549135.false c.if-v-gt2147483647.true ∙ ap largest (sym c.in_ok-v.was ∙ c.read_fixed.ensures)

pub overflow_add-result : goal.overflow_add-result
overflow_add-result c = omega (arith, (fixed-read 4 0 c.args.s.now (sym c.in_ok-v.was ∙ c.read_fixed.ensures)).size)

pub returns : goal.returns
returns c = largest-in _ _ c.if-v-lt270549135.false c.if-v-gt2147483647.false ∙ ap largest (sym c.in_ok-v.was ∙ c.read_fixed.ensures)

pub returns-in_err-v : goal.returns-in_err-v
returns-in_err-v c = let p = err_from_is_err_and c.from_residual.result c.from_residual.ensures.1 in
    rw (p.1, p.2) (ap largest (sym c.in_err-v.was ∙ c.read_fixed.ensures))
