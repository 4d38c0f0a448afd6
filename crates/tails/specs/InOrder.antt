-- A rule and a tail in the paper's order, each as one definition: what a reader is to believe of `parse_rule` and `parse_tail` (Tail.antt), which
-- are the same by `rule-stages` and `tail-stages` (proofs/InOrderLaws.antt). Each thing that is read is judged at once.
use Rattle.base.specs.declared.Refusal.TheVariants.{BadRecurrence}
use Rattle.std.specs.Prelude.{ℕ, List}
use Rattle.base.specs.Pick.{pick}
use Rattle.base.specs.Parsed.{Parsed, got, bad, bind, parse, parse_byte}
use Rattle.counts.specs.Count.{read_count}
use Rattle.offsets.specs.Offset.{read_sum}
use Rattle.places.specs.Name.{read_zigzag, parse_name}
use Rattle.rules.specs.declared.Rule.{Rule}
use Rattle.rules.specs.Fields.{byte_ok, month_ok, day_ok, time_ok, rule_of, sum_ok}
use Rattle.tails.specs.declared.Standard.{Standard}
use Rattle.tails.specs.declared.NamedTail.{NamedTail}

-- "a byte 0MMDDDAP, month as count, day as signed count, time of day as an offset code", each judged as it is read
unfoldable pub rule_in_order : List ℕ → Parsed Rule
rule_in_order s =
    bind (parse_byte s) (λ b r. pick (byte_ok b) (
    bind (parse read_count r) (λ month r. pick (month_ok month) (
    bind (parse read_zigzag r) (λ day r. pick (day_ok month day) (
    bind (parse read_sum r) (λ time r. pick (time_ok time) (
    got (rule_of b month day time) r) (bad BadRecurrence))) (bad BadRecurrence))) (bad BadRecurrence))) (bad BadRecurrence))

-- "standard offset, standard name, standard rule, daylight name, daylight rule, daylight savings"
unfoldable pub tail_in_order : ℕ → ℕ → List ℕ → Parsed NamedTail
tail_in_order pool start s =
    bind (bind (parse read_sum s) (λ offset r.
    bind (parse_name pool r) (λ name r.
    bind (rule_in_order r) (λ rule r.
    got (record { start = start; offset = offset; name = name; rule = rule }) r)))) (λ (x : Standard) r.
    bind (parse_name pool r) (λ daylight r.
    bind (rule_in_order r) (λ rule r.
    bind (parse read_sum r) (λ savings r. pick (sum_ok x.offset savings)
    (got (record {
      tail = record { start = x.start; offset = x.offset; savings = savings; standard = x.rule; daylight = rule };
      standard = x.name;
      daylight = daylight;
    }) r) (bad BadRecurrence)))))
