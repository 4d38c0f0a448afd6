-- The stages of a rule and of a tail are what the paper says in its order. Assumes nothing.
use mathlib.Core.Path.{◌≡◌, refl}
use Prim.Native.Nat.{ℕ}
use mathlib.Core.List.{List}
use Rattle.tails.specs.Tail.{after_time, parse_time, after_day, parse_day, after_month, parse_month, after_byte, parse_rule, after_standard_name, after_offset, parse_standard, after_savings, parse_savings, after_daylight_name, parse_daylight, parse_tail}
use Rattle.tails.specs.InOrder.{rule_in_order, tail_in_order}

pub rule-stages : (s : List ℕ) → rule_in_order s ≡ parse_rule s
unfolding rule_in_order parse_rule after_byte parse_month after_month parse_day after_day parse_time after_time
rule-stages s = refl

pub tail-stages : (pool start : ℕ) (s : List ℕ) → tail_in_order pool start s ≡ parse_tail pool start s
unfolding tail_in_order rule_in_order parse_rule after_byte parse_month after_month parse_day after_day parse_time after_time after_standard_name after_offset parse_standard after_savings parse_savings after_daylight_name parse_daylight parse_tail
tail-stages pool start s = refl
