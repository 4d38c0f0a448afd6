use mathlib.Core.Path.{sym, ap, ◌∙◌}
use Prim.Native.Nat.{ℕ, ◌*◌}
use Rattle.traces.proofs.TraceLaws.{judged, within-is, no_header, no-records, no_names, trace-judged}
use Rattle.traces.proofs.trace_ok.Goals as goal

pub returns-then-s-lt16 : goal.returns-then-s-lt16
returns-then-s-lt16 c = no_header _ c.if-s-lt16.true

pub names_within-requires : goal.names_within-requires
names_within-requires c = within-is _ _ _ (sym c.records_within.ensures ∙ c.if-records_within.true)

pub returns-then-within : goal.returns-then-within
returns-then-within c = trace-judged _ _ _ _ _ c.names_within.ensures c.four_at-n.ensures.0 c.four_at-at.ensures.0 c.four_at-size.ensures.0 c.if-s-lt16.false
    (judged _ _ _ _ _ _ _ c.if-records_within.true c.records_within.ensures c.four_at-at.ensures.0 (ap (λ (k : ℕ). k * 20) c.four_at-n.ensures.0))
    (judged _ _ _ _ _ _ _ c.if-within.true c.within.ensures c.four_at-names.ensures.0 c.four_at-size.ensures.0)

pub returns-then-records_within : goal.returns-then-records_within
returns-then-records_within c = no_names _ (judged _ _ _ _ _ _ _ c.if-within.false c.within.ensures c.four_at-names.ensures.0 c.four_at-size.ensures.0)

pub returns : goal.returns
returns c = no-records _ (judged _ _ _ _ _ _ _ c.if-records_within.false c.records_within.ensures c.four_at-at.ensures.0 (ap (λ (k : ℕ). k * 20) c.four_at-n.ensures.0))
