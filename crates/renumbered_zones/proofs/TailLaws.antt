-- The tail of a zone reads the same with other pool numbers, and the walk over mentions meets its two names. Assumes nothing.
use Rattle.base.specs.declared.Refusal.TheVariants.{BadRecurrence}
use mathlib.Core.Path.{◌≡◌, refl, sym, ap, ◌∙◌, subst}
use mathlib.Core.Bool.{true}
use mathlib.Core.List.{List, [], ◌∷◌}
use Prim.Native.Nat.{ℕ, ◌≤◌, ◌<◌}
use native.Mathlib.Omega.{arith}
use Rattle.base.specs.Parsed.{Parsed, got, bind, parse, parse_byte}
use Rattle.base.proofs.ParseLaws.{got-value, got-rest, bind-good, pick_good}
use Rattle.counts.specs.Count.{read_count}
use Rattle.offsets.specs.Offset.{read_sum}
use Rattle.places.specs.Name.{read_zigzag, parse_name}
use Rattle.rules.specs.declared.Rule.{Rule}
use Rattle.rules.specs.Fields.{byte_ok, month_ok, day_ok, time_ok, rule_of, sum_ok}
use Rattle.tails.specs.declared.Standard.{Standard}
use Rattle.tails.specs.declared.NamedTail.{NamedTail}
use Rattle.tails.specs.Tail.{after_time, parse_time, after_day, parse_day, after_month, parse_month, after_byte, parse_rule, standard_of, after_standard_name, after_offset, parse_standard, tail_of, after_savings, parse_savings, after_daylight_name, parse_daylight, parse_tail}
use Rattle.tails.proofs.TailLaws.{rule-parts}
use Rattle.mentions.specs.declared.Stage.TheVariants.{Rule as Ruled, Rest}
use Rattle.mentions.specs.Walk.{behind_rule, ahead_of}
use Rattle.mentions.proofs.FrontLaws.{Front, count-front, zigzag-front, sum-front, byte-front, both-front, got-front, test-front}
use Rattle.mentions.proofs.StepLaws.{Ahead, Reads, then-reads, code_reads, name-reads, last-reads, end_reads}
use Rattle.renumbered_zones.specs.Renamed.{renamed_tail}

-- a rule that was read: the walk steps over the same bytes
record RuleRow (s : List ℕ) (x : Rule) (r : List ℕ) : Type 0 where
  front : Front parse_rule s x r
  over : behind_rule s ≡ got Rest r

over-rule : (s : List ℕ) (b : ℕ) (r₁ : List ℕ) (m : ℕ) (r₂ : List ℕ) (z : ℕ) (r₃ : List ℕ) (t : ℕ) (r : List ℕ) → parse_byte s ≡ got b r₁
    → parse read_count r₁ ≡ got m r₂ → parse read_zigzag r₂ ≡ got z r₃ → parse read_sum r₃ ≡ got t r → behind_rule s ≡ got Rest r
unfolding behind_rule
over-rule s b r₁ m r₂ z r₃ t r e₁ e₂ e₃ e₄ = rw (e₁, e₂, e₃, e₄)

rule-row : (s : List ℕ) (x : Rule) (q : List ℕ) → parse_rule s ≡ got x q → RuleRow s x q
unfolding parse_rule after_byte parse_month after_month parse_day after_day parse_time after_time
rule-row s x q e =
    let p = rule-parts s x q e in
    let b : ℕ = p.byte in
    let m : ℕ = p.month in
    let z : ℕ = p.day in
    let t : ℕ = p.time in
    let r₁ : List ℕ = p.behind-byte in
    let r₂ : List ℕ = p.behind-month in
    let r₃ : List ℕ = p.behind-day in
    let y : Rule = rule_of b m z t in
    subst (λ (o : Rule). RuleRow s o q) p.made (record {
      front =
          both-front parse_byte after_byte s b r₁ y q (byte-front s b r₁ p.byte-is)
          (test-front (byte_ok b) BadRecurrence (parse_month b) r₁ y q p.judged.byte-ok
          (both-front (parse read_count) (after_month b) r₁ m r₂ y q (count-front r₁ m r₂ p.month-is)
          (test-front (month_ok m) BadRecurrence (parse_day b m) r₂ y q p.judged.month-ok
          (both-front (parse read_zigzag) (after_day b m) r₂ z r₃ y q (zigzag-front r₂ z r₃ p.day-is)
          (test-front (day_ok m z) BadRecurrence (parse_time b m z) r₃ y q p.judged.day-ok
          (both-front (parse read_sum) (after_time b m z) r₃ t q y q (sum-front r₃ t q p.time-is)
          (test-front (time_ok t) BadRecurrence (λ o. got y o) q y q p.judged.time-ok (got-front y q))))))));
      over = over-rule s b r₁ m r₂ z r₃ t q p.byte-is p.month-is p.day-is p.time-is;
    })

-- behind the daylight name
rest_read : (x : Standard) (k : ℕ) (s : List ℕ) (rule : Rule) (r : List ℕ) (savings : ℕ) (q : List ℕ) → parse_rule s ≡ got rule r
    → parse read_sum r ≡ got savings q → sum_ok x.offset savings ≡ true → after_daylight_name x k s ≡ got (tail_of x k rule savings) q
unfolding after_daylight_name parse_savings after_savings
rest_read x k s rule r savings q e₁ e₂ j = rw (e₁, e₂, j)

-- "standard offset" before the standard name
abbrev pub to_standard : Ahead
to_standard s = bind (parse read_sum s) (λ offset r. got Ruled r)

module _ (ρ : ℕ → ℕ) (pool pool' : ℕ) (few : pool' ≤ 8192) (start : ℕ) where
  abbrev renamed_standard : Standard → Standard
  renamed_standard x = record { start = x.start; offset = x.offset; name = ρ x.name; rule = x.rule }

  -- up to the daylight name
  standard-reads : (s : List ℕ) (x : Standard) (q : List ℕ) → parse_standard pool start s ≡ got x q → ρ x.name < pool'
      → Reads ρ to_standard s (parse_standard pool' start) (renamed_standard x) (x.name ∷ []) (λ r. got Rest r) q
  unfolding parse_standard after_offset after_standard_name ahead_of
  standard-reads s x q e =
      let a = bind-good (parse read_sum s) (after_offset pool start) x q e in
      let b = bind-good (parse_name pool a.rest) (after_standard_name start a.first) x q a.on in
      let c = bind-good (parse_rule b.rest) (standard_of start a.first b.first) x q b.on in
      let row = rule-row b.rest c.first c.rest c.is in
      let o : got (record { start = start; offset = a.first; name = b.first; rule = c.first }) c.rest ≡ got x q = c.on in
      subst
      (λ (y : Standard). ρ y.name < pool'
      → Reads ρ to_standard s (parse_standard pool' start) (renamed_standard y) (y.name ∷ []) (λ r. got Rest r) q)
      (got-value o)
      (subst
      (λ (t : List ℕ). ρ b.first < pool'
      → Reads ρ to_standard s (parse_standard pool' start)
      (record { start = start; offset = a.first; name = ρ b.first; rule = c.first }) (b.first ∷ []) (λ r. got Rest r) t)
      (got-rest o)
      (λ f. then-reads ρ (after_offset pool' start)
      (code_reads ρ to_standard (parse read_sum) (λ n r. got Ruled r) s a.first a.rest refl (sum-front s a.first a.rest a.is)
      (omega arith))
      (then-reads ρ (after_standard_name start a.first)
      (name-reads ρ (λ r. got Ruled r) a.rest Ruled b.first b.rest refl pool pool' few b.is f)
      (end_reads ρ (standard_of start a.first (ρ b.first)) _ (λ y. refl)
      (code_reads ρ behind_rule parse_rule (λ n r. got Rest r) b.rest c.first c.rest
      (row.over ∙ sym (ap (λ (y : Parsed Rule). bind y (λ n r. got Rest r)) c.is)) row.front (omega arith))))))

  pub tail-reads : (s : List ℕ) (n : NamedTail) → parse_tail pool start s ≡ got n [] → ρ n.standard < pool' → ρ n.daylight < pool'
      → Reads ρ to_standard s (parse_tail pool' start) (renamed_tail ρ n) (n.standard ∷ n.daylight ∷ []) (ahead_of Rest) []
  unfolding parse_tail parse_daylight after_daylight_name parse_savings after_savings ahead_of
  tail-reads s n e =
      let a = bind-good (parse_standard pool start s) (parse_daylight pool) n [] e in
      let x : Standard = a.first in
      let b = bind-good (parse_name pool a.rest) (after_daylight_name x) n [] a.on in
      let k : ℕ = b.first in
      let c = bind-good (parse_rule b.rest) (parse_savings x k) n [] b.on in
      let d = bind-good (parse read_sum c.rest) (after_savings x k c.first) n [] c.on in
      let t = pick_good (sum_ok x.offset d.first) (got (tail_of x k c.first d.first) d.rest) BadRecurrence n [] d.on in
      subst
      (λ (y : NamedTail). ρ y.standard < pool' → ρ y.daylight < pool'
      → Reads ρ to_standard s (parse_tail pool' start) (renamed_tail ρ y) (y.standard ∷ y.daylight ∷ []) (ahead_of Rest) [])
      (got-value t.1)
      (λ f g. then-reads ρ (parse_daylight pool') (standard-reads s x a.rest a.is f)
      (then-reads ρ (after_daylight_name (renamed_standard x)) (name-reads ρ (λ r. got Rest r) a.rest Rest k b.rest refl pool pool' few b.is g)
      (last-reads ρ (ahead_of Rest) b.rest Rest (after_daylight_name (renamed_standard x) (ρ k)) _ refl
      (rest_read (renamed_standard x) (ρ k) b.rest c.first c.rest d.first [] c.is
      (d.is ∙ ap (got d.first) (got-rest t.1)) t.0))))
