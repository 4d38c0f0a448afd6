use mathlib.Core.Path.{sym, ◌∙◌}
use native.Mathlib.Omega.{arith}
use Rattle.traces.proofs.TraceLaws.{trace-fits}
use Rattle.replay.proofs.ReplayLaws.{replay-bad, replay-read, records-read}
use Rattle.replay.proofs.replay.Goals as goal

pub four_at-n-requires : goal.four_at-n-requires
four_at-n-requires c = omega (arith, (trace-fits _ (sym c.trace_ok.ensures ∙ c.if-trace_ok.true)).head)

pub four_at-at-requires : goal.four_at-at-requires
four_at-at-requires c = omega (arith, (trace-fits _ (sym c.trace_ok.ensures ∙ c.if-trace_ok.true)).head)

pub four_at-names-requires : goal.four_at-names-requires
four_at-names-requires c = omega (arith, (trace-fits _ (sym c.trace_ok.ensures ∙ c.if-trace_ok.true)).head)

pub first_wrong-requires : goal.first_wrong-requires
first_wrong-requires c = records-read _ _ _ _ c.four_at-n.ensures.0 c.four_at-at.ensures.0 c.four_at-names.ensures.0 c.four_at-n.ensures.1
    (sym c.if-trace_ok.true ∙ c.trace_ok.ensures)

pub returns-then-trace_ok : goal.returns-then-trace_ok
returns-then-trace_ok c = replay-read _ _ _ _ _ _ c.first_wrong.ensures c.four_at-n.ensures.0 c.four_at-at.ensures.0 c.four_at-names.ensures.0
    (sym c.if-trace_ok.true ∙ c.trace_ok.ensures)

pub returns : goal.returns
returns c = replay-bad _ _ (sym c.if-trace_ok.false ∙ c.trace_ok.ensures)
