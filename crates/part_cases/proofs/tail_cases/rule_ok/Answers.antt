use mathlib.Core.Path.{refl, sym, ◌∙◌}
use Rattle.base.proofs.Tests.{never}
use Rattle.part_cases.proofs.tail_cases.rule_ok.Goals as goal

pub returns-then-not-rule_byte_ok : goal.returns-then-not-rule_byte_ok
returns-then-not-rule_byte_ok c = λ e. never e refl

pub returns-then-not-month_ok : goal.returns-then-not-month_ok
returns-then-not-month_ok c = λ e. never e refl

pub day_ok-requires : goal.day_ok-requires
day_ok-requires c = sym c.month_ok.ensures ∙ c.if-not-month_ok.false

pub returns-then-not-day_ok : goal.returns-then-not-day_ok
returns-then-not-day_ok c = λ e. never e refl

pub returns : goal.returns
returns c = λ e. record {
  byte-ok = sym c.rule_byte_ok.ensures ∙ c.if-not-rule_byte_ok.false;
  month-ok = sym c.month_ok.ensures ∙ c.if-not-month_ok.false;
  day-ok = sym c.day_ok.ensures ∙ c.if-not-day_ok.false;
  time-ok = sym c.time_ok.ensures ∙ e;
}
