-- What a tail that was read says is in its ranges. Assumes nothing.
use Rattle.base.specs.declared.Refusal.TheVariants.{BadRecurrence}
use mathlib.Core.Path.{◌≡◌, refl, ap, ◌∙◌, subst}
use mathlib.Core.List.{List}
use Prim.Native.Nat.{ℕ, ◌≤◌}
use native.Mathlib.Omega.{arith}
use Rattle.base.specs.Parsed.{got, parse, parse_byte}
use Rattle.base.specs.Moment.{Finite}
use Rattle.base.proofs.ParseLaws.{got-value, got-rest, bind-good, pick_good}
use Rattle.counts.specs.Count.{read_count}
use Rattle.offsets.specs.Offset.{read_sum}
use Rattle.rules.specs.declared.Rule.{Rule}
use Rattle.rules.specs.Rules.{RuleOk}
use Rattle.rules.specs.Fields.{byte_ok, month_ok, day_ok, time_ok, rule_of, FieldsOk, sum_ok}
use Rattle.rules.proofs.FieldLaws.{rule-ok}
use Rattle.places.specs.Placed.{Placed, at, Stands}
use Rattle.places.specs.Name.{read_zigzag, parse_name}
use Rattle.places.proofs.ValueLaws.{sum_low, sum-high, name-ok}
use Rattle.tails.specs.Tail.{after_time, parse_time, after_day, parse_day, after_month, parse_month, after_byte, parse_rule, standard_of, after_standard_name, after_offset, parse_standard, tail_of, after_savings, parse_savings, after_daylight_name, parse_daylight, parse_tail}
use Rattle.tails.specs.Sound.{StandardOk, NamedTailOk}
use Rattle.tails.specs.declared.Standard.{Standard}
use Rattle.tails.specs.declared.NamedTail.{NamedTail}

-- a rule that was read, by its four parts, which are judged
pub record RuleParts (s : List ℕ) (x : Rule) (q : List ℕ) : Type 0 where
  pub byte : ℕ
  pub behind-byte : List ℕ
  pub byte-is : parse_byte s ≡ got byte behind-byte
  pub month : ℕ
  pub behind-month : List ℕ
  pub month-is : parse read_count behind-byte ≡ got month behind-month
  pub day : ℕ
  pub behind-day : List ℕ
  pub day-is : parse read_zigzag behind-month ≡ got day behind-day
  pub time : ℕ
  pub time-is : parse read_sum behind-day ≡ got time q
  pub judged : FieldsOk byte month day time
  pub made : rule_of byte month day time ≡ x

pub rule-parts : (s : List ℕ) (x : Rule) (q : List ℕ) → parse_rule s ≡ got x q → RuleParts s x q
unfolding parse_rule after_byte parse_month after_month parse_day after_day parse_time after_time
rule-parts s x q e =
    let a = bind-good (parse_byte s) after_byte x q e in
    let b : ℕ = a.first in
    let a' = pick_good (byte_ok b) (parse_month b a.rest) BadRecurrence x q a.on in
    let c = bind-good (parse read_count a.rest) (after_month b) x q a'.1 in
    let m : ℕ = c.first in
    let c' = pick_good (month_ok m) (parse_day b m c.rest) BadRecurrence x q c.on in
    let d = bind-good (parse read_zigzag c.rest) (after_day b m) x q c'.1 in
    let z : ℕ = d.first in
    let d' = pick_good (day_ok m z) (parse_time b m z d.rest) BadRecurrence x q d.on in
    let f = bind-good (parse read_sum d.rest) (after_time b m z) x q d'.1 in
    let f' = pick_good (time_ok f.first) (got (rule_of b m z f.first) f.rest) BadRecurrence x q f.on in
    record {
      byte = b;
      behind-byte = a.rest;
      byte-is = a.is;
      month = m;
      behind-month = c.rest;
      month-is = c.is;
      day = z;
      behind-day = d.rest;
      day-is = d.is;
      time = f.first;
      time-is = f.is ∙ ap (got f.first) (got-rest f'.1);
      judged = record { byte-ok = a'.0; month-ok = c'.0; day-ok = d'.0; time-ok = f'.0 };
      made = got-value f'.1;
    }

pub rule-sound : (s : List ℕ) (x : Rule) (q : List ℕ) → parse_rule s ≡ got x q → RuleOk x
rule-sound s x q e =
    let p = rule-parts s x q e in
    subst RuleOk p.made (rule-ok p.byte p.month p.day p.time p.judged)

pub standard-sound : (pool start : ℕ) (s : List ℕ) (x : Standard) (q : List ℕ) → parse_standard pool start s ≡ got x q → StandardOk pool start x
unfolding parse_standard after_offset after_standard_name
standard-sound pool start s x q e =
    let a = bind-good (parse read_sum s) (after_offset pool start) x q e in
    let b = bind-good (parse_name pool a.rest) (after_standard_name start a.first) x q a.on in
    let c = bind-good (parse_rule b.rest) (standard_of start a.first b.first) x q b.on in
    let f : got (record { start = start; offset = a.first; name = b.first; rule = c.first }) c.rest ≡ got x q = c.on in
    let g : record { start = start; offset = a.first; name = b.first; rule = c.first } ≡ x = cc in
    subst (StandardOk pool start) g (record {
      starts = refl;
      offset-low = sum_low _ _ _ a.is;
      offset-high = sum-high _ _ _ a.is;
      name-ok = name-ok pool _ _ _ b.is;
      rule-ok = rule-sound _ _ _ c.is;
    })

pub tail-sound : (pool start : ℕ) (s : List ℕ) (n : NamedTail) (q : List ℕ) → Finite start → parse_tail pool start s ≡ got n q → NamedTailOk pool start n
unfolding parse_tail parse_daylight after_daylight_name parse_savings after_savings
tail-sound pool start s n q h e =
    let a = bind-good (parse_standard pool start s) (parse_daylight pool) n q e in
    let x : Standard = a.first in
    let y = standard-sound pool start _ _ _ a.is in
    let b = bind-good (parse_name pool a.rest) (after_daylight_name x) n q a.on in
    let c = bind-good (parse_rule b.rest) (parse_savings x b.first) n q b.on in
    let d = bind-good (parse read_sum c.rest) (after_savings x b.first c.first) n q c.on in
    let d' = pick_good (sum_ok x.offset d.first) (got (tail_of x b.first c.first d.first) d.rest) BadRecurrence n q d.on in
    let f : got (tail_of x b.first c.first d.first) d.rest ≡ got n q = d'.1 in
    let g : tail_of x b.first c.first d.first ≡ n = cc in
    subst (NamedTailOk pool start) g (record {
      starts = y.starts;
      tail-ok = record {
        start-ok = rw y.starts h;
        offset-high = omega (arith, y.offset-high);
        sum-ok = d'.0;
        standard-ok = y.rule-ok;
        daylight-ok = rule-sound _ _ _ c.is;
      };
      offset-low = y.offset-low;
      savings-high = sum-high _ _ _ d.is;
      standard-ok = y.name-ok;
      daylight-ok = name-ok pool _ _ _ b.is;
    })

-- the standard half as a reader at a place gives it
pub standard-high : (pool start : ℕ) (s q : List ℕ) {y : Placed Standard} → Stands s (parse_standard pool start q) y
    → (x : Standard) (e : ℕ) → y ≡ at x e → x.offset ≤ 172800000
standard-high pool start s q h x e f =
    let k = (standard-sound pool start q x _ (rw f at h.means)).offset-high in
    omega arith
