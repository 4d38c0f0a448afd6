use mathlib.Core.Path.{sym, ◌∙◌}
use native.Mathlib.Omega.{arith}
use Rattle.rules.proofs.FieldLaws.{rule-ok}
use Rattle.part_cases.proofs.tail_cases.answer.Goals as goal

pub rule_of-requires : goal.rule_of-requires
rule_of-requires c = (c.rule_ok.ensures c.if-not-rule_ok.false).time-ok

pub rule_of-requires-2 : goal.rule_of-requires-2
rule_of-requires-2 c = (c.rule_ok-2.ensures c.if-not-rule_ok-2.false).time-ok

pub look_up-requires : goal.look_up-requires
look_up-requires c = (
  c.is_finite-2.ensures c.if-not-is_finite-2.false,
  record {
    start-ok = c.is_finite.ensures c.if-not-is_finite.false;
    offset-high = omega arith;
    sum-ok = sym c.sum_ok.ensures ∙ c.if-not-sum_ok.false;
    standard-ok = rw c.rule_of.ensures (rule-ok _ _ _ _ (c.rule_ok.ensures c.if-not-rule_ok.false));
    daylight-ok = rw c.rule_of-2.ensures (rule-ok _ _ _ _ (c.rule_ok-2.ensures c.if-not-rule_ok-2.false));
  },
)
