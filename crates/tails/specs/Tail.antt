-- The tail of a zone, read left to right, for the proofs: each thing that is read is a stage of its own, last stage first. In the paper's order
-- a rule and a tail stand in InOrder.antt. The code's way, tied to that by `rule-stages` and `tail-stages` (proofs/InOrderLaws.antt).
use Rattle.base.specs.declared.Refusal.TheVariants.{BadRecurrence}
use Rattle.std.specs.Prelude.{ℕ, List}
use Rattle.base.specs.Pick.{pick}
use Rattle.base.specs.Parsed.{Parsed, got, bad, bind, parse, parse_byte}
use Rattle.counts.specs.Count.{read_count}
use Rattle.offsets.specs.Offset.{read_sum}
use Rattle.places.specs.Name.{read_zigzag, parse_name}
use Rattle.rules.specs.declared.Rule.{Rule}
use Rattle.rules.specs.Fields.{byte_ok, month_ok, day_ok, time_ok, rule_of, sum_ok}
use Rattle.tails.specs.declared.Standard.{Standard}
use Rattle.tails.specs.declared.NamedTail.{NamedTail}

-- A rule: "a byte 0MMDDDAP, month as count, day as signed count, time of day as an offset code".
unfoldable pub after_time : ℕ → ℕ → ℕ → ℕ → List ℕ → Parsed Rule
after_time b m z time s = pick (time_ok time) (got (rule_of b m z time) s) (bad BadRecurrence)

unfoldable pub parse_time : ℕ → ℕ → ℕ → List ℕ → Parsed Rule
parse_time b m z s = bind (parse read_sum s) (after_time b m z)

unfoldable pub after_day : ℕ → ℕ → ℕ → List ℕ → Parsed Rule
after_day b m z s = pick (day_ok m z) (parse_time b m z s) (bad BadRecurrence)

unfoldable pub parse_day : ℕ → ℕ → List ℕ → Parsed Rule
parse_day b m s = bind (parse read_zigzag s) (after_day b m)

unfoldable pub after_month : ℕ → ℕ → List ℕ → Parsed Rule
after_month b m s = pick (month_ok m) (parse_day b m s) (bad BadRecurrence)

unfoldable pub parse_month : ℕ → List ℕ → Parsed Rule
parse_month b s = bind (parse read_count s) (after_month b)

unfoldable pub after_byte : ℕ → List ℕ → Parsed Rule
after_byte b s = pick (byte_ok b) (parse_month b s) (bad BadRecurrence)

unfoldable pub parse_rule : List ℕ → Parsed Rule
parse_rule s = bind (parse_byte s) after_byte

-- A tail: "standard offset, standard name, standard rule, daylight name, daylight rule, daylight savings". It starts where the
-- listed intervals end.
abbrev pub standard_of : ℕ → ℕ → ℕ → Rule → List ℕ → Parsed Standard
standard_of start offset n rule s = got (record { start = start; offset = offset; name = n; rule = rule }) s

unfoldable pub after_standard_name : ℕ → ℕ → ℕ → List ℕ → Parsed Standard
after_standard_name start offset n s = bind (parse_rule s) (standard_of start offset n)

unfoldable pub after_offset : ℕ → ℕ → ℕ → List ℕ → Parsed Standard
after_offset pool start offset s = bind (parse_name pool s) (after_standard_name start offset)

unfoldable pub parse_standard : ℕ → ℕ → List ℕ → Parsed Standard
parse_standard pool start s = bind (parse read_sum s) (after_offset pool start)

abbrev pub tail_of : Standard → ℕ → Rule → ℕ → NamedTail
tail_of x n rule savings =
    record {
      tail = record { start = x.start; offset = x.offset; savings = savings; standard = x.rule; daylight = rule };
      standard = x.name;
      daylight = n;
    }

unfoldable pub after_savings : Standard → ℕ → Rule → ℕ → List ℕ → Parsed NamedTail
after_savings x n rule savings s = pick (sum_ok x.offset savings) (got (tail_of x n rule savings) s) (bad BadRecurrence)

unfoldable pub parse_savings : Standard → ℕ → Rule → List ℕ → Parsed NamedTail
parse_savings x n rule s = bind (parse read_sum s) (after_savings x n rule)

unfoldable pub after_daylight_name : Standard → ℕ → List ℕ → Parsed NamedTail
after_daylight_name x n s = bind (parse_rule s) (parse_savings x n)

unfoldable pub parse_daylight : ℕ → Standard → List ℕ → Parsed NamedTail
parse_daylight pool x s = bind (parse_name pool s) (after_daylight_name x)

unfoldable pub parse_tail : ℕ → ℕ → List ℕ → Parsed NamedTail
parse_tail pool start s = bind (parse_standard pool start s) (parse_daylight pool)
