-- The numbers with which a field's contents are refused: 4, or 7 to 11; 19 in field 3. Assumes nothing.
use Rattle.base.specs.Refusals.{refusal_number}
use Rattle.base.specs.declared.Refusal.{Refusal}
use Rattle.std.specs.Prelude.{Err, Ok}
use Rattle.base.specs.Coded.{Coded}
use Rattle.base.specs.declared.Refusal.TheVariants.{BadCode, BadData, BadInterval, BadRecurrence, BadText, SecondAlias, TooLarge}
use mathlib.Core.Path.{◌≡◌, refl, sym}
use mathlib.Core.Bool.{Bool, true, false}
use mathlib.Core.List.{List, [], ◌∷◌, ◌++◌}
use mathlib.Core.Logic.{◌⊎◌, inl, inr}
use Prim.Native.Nat.{ℕ, zero, suc, ◌+◌, ◌*◌, ◌%◌}
use native.Mathlib.Omega.{arith}
use lib.Dec.{ltb, leb, eqb}
use lib.ListN.{length, get_or, drop}
use Rattle.base.specs.Pick.{pick, both}
use Rattle.base.specs.Parsed.{Parsed, got, bad, bind, behind_code, parse, parse_byte, ended, prepend, many, behind}
use Rattle.base.specs.Moment.{finite, end_of_time}
use Rattle.counts.specs.Groups.{read_groups}
use Rattle.counts.specs.Count.{read_count}
use Rattle.counts.specs.Fixed.{read_fixed, fixed_from}
use Rattle.counts.proofs.ShortestLaws.{group-refused}
use Rattle.offsets.specs.Offset.{in_day, offset_of, in_units, read_sum}
use Rattle.transitions.specs.Transition.{in_range, from_count, from_ticks, after_count as after_transition, read_moment, hour, minute, year1800}
use Rattle.signed.specs.Instant.{from_raw}
use Rattle.rules.specs.Fields.{byte_ok, month_ok, day_ok, time_ok, rule_of, sum_ok}
use Rattle.places.specs.Name.{read_zigzag, judge_name, parse_name}
use Rattle.intervals.specs.declared.Interval.{Interval}
use Rattle.intervals.specs.Interval.{standard_sum, rises, start_of, judge_standard, after_wall, after_name, parse_details, after_start, parse_interval}
use Rattle.tails.specs.Tail.{after_time, parse_time, after_day, parse_day, after_month, parse_month, after_byte, parse_rule}
use Rattle.tails.specs.Tail.{standard_of, tail_of, after_standard_name, after_offset, parse_standard, after_savings, parse_savings, after_daylight_name, parse_daylight, parse_tail}
use Rattle.zones.specs.Parse.{zone_of, after_tail, parse_tailed, after_tail_byte, after_end, after_intervals, after_count, parse_listed}
use Rattle.zones.specs.Content.{untailed, tailed, absent, present, fixed, listed}
use Rattle.zones.specs.Parse.{fixed_of, after_fixed_offset, parse_fixed, after_flag, after_id, parse_zone}
use Rattle.ids.specs.Ids.{among}
use Rattle.aliases.specs.Dictionary.{Dictionary, keys}
use Rattle.aliases.specs.Field.{after_key, parse_entry, parse_entries, all_entries, parse_aliases}
use Rattle.demands.specs.Numbers.{OfContent, too_large, faulty}

-- a code is refused with 7 or 9
abbrev Codes : Coded ℕ → Type 0
Codes (Ok (v, n)) = Unit {0}
Codes (Err k) = (k ≡ BadCode) ⊎ (k ≡ BadData)

pick-codes : (t : Bool) (x y : Coded ℕ) → Codes x → Codes y → Codes (pick t x y)
pick-codes true x y h k = h
pick-codes false x y h k = k

groups-codes : (k top : ℕ) (s : List ℕ) → Codes (read_groups k top s)
groups-codes k top s = go (read_groups k top s) refl
  where
    go : (r : Coded ℕ) → read_groups k top s ≡ r → Codes r
    go (Ok (v, n)) e = tt
    go (Err j) e = group-refused k top s (sym e)

fixed-codes : (n high : ℕ) (s : List ℕ) → Codes (read_fixed n high s)
fixed-codes n high s = pick-codes (leb n (length s)) (Ok (fixed_from n high s, n)) (Err BadData) tt (inr refl)

offset-codes : (n coarser sum : ℕ) → Codes (offset_of n coarser sum)
offset-codes n coarser sum =
    pick-codes (in_day sum) (pick (eqb (sum % coarser) 0) (Err BadCode) (Ok (sum, n))) (Err BadCode) (pick-codes (eqb (sum % coarser) 0) (Err BadCode) (Ok (sum, n)) (inl refl) tt) (inl refl)

units-codes : (unit coarser : ℕ) (r : Coded ℕ) → Codes r → Codes (in_units unit coarser r)
units-codes unit coarser (Ok (v, n)) h = offset-codes (n + 1) coarser (v * unit)
units-codes unit coarser (Err k) h = h

sum_codes : (s : List ℕ) → Codes (read_sum s)
unfolding read_sum
sum_codes [] = inr refl
sum_codes (b ∷ s) =
    pick-codes (ltb b 128) _ _ (offset-codes 1 172800000 (b * 1800000))
    (pick-codes (ltb b 160) _ _ (units-codes 60000 1800000 (read_fixed 1 (b % 32) s) (fixed-codes 1 (b % 32) s))
    (pick-codes (ltb b 192) _ _ (units-codes 1000 60000 (read_fixed 2 (b % 32) s) (fixed-codes 2 (b % 32) s))
    (pick-codes (ltb b 224) _ _ (units-codes 1 1000 (read_fixed 3 (b % 32) s) (fixed-codes 3 (b % 32) s)) (inl refl))))

range-codes : (n t : ℕ) → Codes (in_range n t)
range-codes n t = pick-codes (finite t) (Ok (t, n)) (Err BadCode) tt (inl refl)

count-codes : (previous v n : ℕ) → Codes (from_count previous v n)
unfolding from_count
count-codes previous v n =
    pick-codes (eqb v 0) _ _ tt
    (pick-codes (eqb v 1) _ _ tt
    (pick-codes (ltb v 128) _ _ (inl refl)
    (pick-codes (ltb v 2097152) _ _ (pick-codes (finite previous) _ _ (range-codes n (previous + v * hour)) (inl refl)) (range-codes n (year1800 + v * minute)))))

ticks-codes : (n : ℕ) (r : Coded ℕ) → Codes r → Codes (from_ticks n r)
ticks-codes n (Ok (raw, m)) h = range-codes (n + m) (from_raw raw)
ticks-codes n (Err k) h = h

moment-codes : (previous : ℕ) (s : List ℕ) → Codes (read_moment previous s)
unfolding read_moment
moment-codes previous s = go (read_count s) (groups-codes 4 7 s)
  where
    go : (r : Coded ℕ) → Codes r → Codes (after_transition previous s r)
    go (Ok (v, n)) h = pick-codes (eqb v 2) _ _ (ticks-codes n (read_fixed 8 0 (drop n s)) (fixed-codes 8 0 (drop n s))) (count-codes previous v n)
    go (Err k) h = h

-- contents
abbrev pub Fine : {A : Type 0} → Parsed A → Type 0
Fine (got a r) = Unit {0}
Fine (bad n) = OfContent (refusal_number n)

seven : OfContent 7
seven = faulty (omega arith) (omega arith)

eight : OfContent 8
eight = faulty (omega arith) (omega arith)

nine : OfContent 9
nine = faulty (omega arith) (omega arith)

ten : OfContent 10
ten = faulty (omega arith) (omega arith)

eleven : OfContent 11
eleven = faulty (omega arith) (omega arith)

module _ {A B : Type 0} where
  row : (p : Parsed A) (k : A → List ℕ → Parsed B) → Fine p → ((a : A) (r : List ℕ) → Fine (k a r)) → Fine (bind p k)
  row (got a r) k h f = f a r
  row (bad n) k h f = h

either : {A : Type 0} (t : Bool) (x y : Parsed A) → Fine x → Fine y → Fine (pick t x y)
either true x y h k = h
either false x y h k = k

code : (read : List ℕ → Coded ℕ) (s : List ℕ) → Codes (read s) → Fine (parse read s)
code read s = go (read s)
  where
    of : (k : Refusal) → (k ≡ BadCode) ⊎ (k ≡ BadData) → OfContent (refusal_number k)
    of k (inl e) = rw e seven
    of k (inr e) = rw e nine

    go : (r : Coded ℕ) → Codes r → Fine (behind_code s r)
    go (Ok (v, n)) h = tt
    go (Err k) h = of k h

byte : (s : List ℕ) → Fine (parse_byte s)
unfolding parse_byte
byte [] = nine
byte (b ∷ s) = tt

end : {A : Type 0} (a : A) (s : List ℕ) → Fine (ended a s)
unfolding ended
end a [] = tt
end a (b ∷ s) = nine

name : (pool : ℕ) (s : List ℕ) → Fine (parse_name pool s)
unfolding parse_name judge_name
name pool s = row (parse read_count s) (judge_name pool) (code read_count s (groups-codes 4 7 s)) (λ n r. either (ltb n pool) (got n r) (bad BadText) tt eight)

rule : (s : List ℕ) → Fine (parse_rule s)
unfolding parse_rule after_byte parse_month after_month parse_day after_day parse_time after_time
rule s =
    row (parse_byte s) after_byte (byte s) (λ b r₁. either (byte_ok b) (parse_month b r₁) (bad BadRecurrence)
    (row (parse read_count r₁) (after_month b) (code read_count r₁ (groups-codes 4 7 r₁)) (λ m r₂. either (month_ok m) (parse_day b m r₂) (bad BadRecurrence)
    (row (parse read_zigzag r₂) (after_day b m) (code read_zigzag r₂ (groups-codes 4 15 r₂)) (λ z r₃. either (day_ok m z) (parse_time b m z r₃) (bad BadRecurrence)
    (row (parse read_sum r₃) (after_time b m z) (code read_sum r₃ (sum_codes r₃)) (λ time r₄. either (time_ok time) (got (rule_of b m z time) r₄) (bad BadRecurrence) tt eleven))
    eleven)) eleven)) eleven)

tail : (pool start : ℕ) (s : List ℕ) → Fine (parse_tail pool start s)
unfolding parse_tail parse_standard after_offset after_standard_name parse_daylight after_daylight_name parse_savings after_savings
tail pool start s =
    row (parse_standard pool start s) (parse_daylight pool)
    (row (parse read_sum s) (after_offset pool start) (code read_sum s (sum_codes s)) (λ offset r₁.
    row (parse_name pool r₁) (after_standard_name start offset) (name pool r₁) (λ n r₂.
    row (parse_rule r₂) (standard_of start offset n) (rule r₂) (λ x r₃. tt))))
    (λ x r₁. row (parse_name pool r₁) (after_daylight_name x) (name pool r₁) (λ n r₂.
    row (parse_rule r₂) (parse_savings x n) (rule r₂) (λ d r₃.
    row (parse read_sum r₃) (after_savings x n d) (code read_sum r₃ (sum_codes r₃)) (λ v r₄.
    either (sum_ok x.offset v) (got (tail_of x n d v) r₄) (bad BadRecurrence) tt eleven))))

interval : (pool prev : ℕ) (s : List ℕ) → Fine (parse_interval pool prev s)
unfolding parse_interval after_start parse_details after_name after_wall judge_standard
interval pool prev s =
    row (parse (read_moment prev) s) (after_start pool prev) (code (read_moment prev) s (moment-codes prev s)) (λ m r₁.
    either (rises prev m) (parse_details pool m r₁) (bad BadInterval)
    (row (parse_name pool r₁) (after_name m) (name pool r₁) (λ n r₂.
    row (parse read_sum r₂) (after_wall m n) (code read_sum r₂ (sum_codes r₂)) (λ w r₃.
    row (parse read_sum r₃) (judge_standard m n w) (code read_sum r₃ (sum_codes r₃)) (λ v r₄.
    either (in_day (standard_sum w v)) (got (record { start = m; name = n; wall = w; savings = v }) r₄) (bad BadInterval) tt ten))))
    ten)

intervals : (pool n prev : ℕ) (s : List ℕ) → Fine (many (parse_interval pool) start_of n prev s)
unfolding many
intervals pool zero prev s = tt
intervals pool (suc n) prev s =
    row (parse_interval pool prev s) (λ a r. bind (many (parse_interval pool) start_of n (start_of a) r) (prepend a)) (interval pool prev s)
    (λ a r. row (many (parse_interval pool) start_of n (start_of a) r) (prepend a) (intervals pool n (start_of a) r) (λ xs q. tt))

-- a zone
pub zone-numbers : (pool : ℕ) (s : List ℕ) → Fine (parse_zone pool s)
unfolding parse_zone after_id after_flag parse_fixed after_fixed_offset parse_listed after_count after_intervals after_end after_tail_byte parse_tailed after_tail zone_of
zone-numbers pool s =
    row (parse_name pool s) (after_id pool) (name pool s) (λ id r₁.
    row (parse_byte r₁) (after_flag pool id) (byte r₁) (λ flag r₂.
    either (eqb flag 1) (parse_fixed pool id r₂) (pick (eqb flag 2) (parse_listed pool id r₂) (bad BadData))
    (row (parse read_sum r₂) (after_fixed_offset pool id) (code read_sum r₂ (sum_codes r₂)) (λ offset r₃. named pool id offset r₃))
    (either (eqb flag 2) (parse_listed pool id r₂) (bad BadData)
    (row (parse read_count r₂) (after_count pool id) (code read_count r₂ (groups-codes 4 7 r₂)) (λ n r₃.
    either (eqb n 0) (bad BadInterval) _ ten
    (either (ltb 4096 n) (bad TooLarge) _ (too_large refl)
    (row (many (parse_interval pool) start_of n end_of_time r₃) (after_intervals pool id) (intervals pool n end_of_time r₃) (λ is r₄.
    row (parse (read_moment (behind start_of end_of_time is)) r₄) (after_end pool id is) (code (read_moment (behind start_of end_of_time is)) r₄ (moment-codes (behind start_of end_of_time is) r₄)) (λ e r₅.
    row (parse_byte r₅) (after_tail_byte pool id is e) (byte r₅) (λ b r₆. ending pool id is e b r₆)))))))
    nine)))
  where
    named : (pool id offset : ℕ) (r : List ℕ) → Fine (after_fixed_offset pool id offset r)
    named pool id offset [] = end (record { id = id; body = fixed offset absent }) []
    named pool id offset (b ∷ r) =
        row (parse_name pool (b ∷ r)) (fixed_of id offset) (name pool (b ∷ r)) (λ n q. end (record { id = id; body = fixed offset (present n) }) q)

    ending : (pool id : ℕ) (is : List Interval) (e b : ℕ) (r : List ℕ) → Fine (after_tail_byte pool id is e b r)
    ending pool id is e b r =
        either (eqb b 0) (pick (eqb e end_of_time) (zone_of id (listed is e untailed) r) (bad BadInterval)) _
        (either (eqb e end_of_time) (zone_of id (listed is e untailed) r) (bad BadInterval) (end (record { id = id; body = listed is e untailed }) r) ten)
        (either (eqb b 1) (pick (both (ltb (behind start_of end_of_time is) e) (ltb e end_of_time)) (parse_tailed pool id is e r) (bad BadInterval)) (bad BadData)
        (either (both (ltb (behind start_of end_of_time is) e) (ltb e end_of_time)) (parse_tailed pool id is e r) (bad BadInterval)
        (row (parse_tail pool e r) (after_tail id is e) (tail pool e r) (λ t q. end (record { id = id; body = listed is e (tailed t) }) q)) ten)
        nine)

-- field 3: besides, 19
abbrev pub FineAliases : {A : Type 0} → Parsed A → Type 0
FineAliases (got a r) = Unit {0}
FineAliases (bad n) = OfContent (refusal_number n) ⊎ (refusal_number n ≡ 19)

weaken : {A : Type 0} (p : Parsed A) → Fine p → FineAliases p
weaken (got a r) h = tt
weaken (bad n) h = inl h

alias-row : {A B : Type 0} (p : Parsed A) (k : A → List ℕ → Parsed B) → FineAliases p → ((a : A) (r : List ℕ) → FineAliases (k a r)) → FineAliases (bind p k)
alias-row (got a r) k h f = f a r
alias-row (bad n) k h f = h

alias-key : {A : Type 0} (t : Bool) (y : Parsed A) → FineAliases y → FineAliases (pick t (bad SecondAlias) y)
alias-key true y k = inr refl
alias-key false y k = k

module _ (ts : List (List ℕ)) where
  alias-entry : (pre : Dictionary) (s : List ℕ) → FineAliases (parse_entry ts pre s)
  unfolding parse_entry after_key
  alias-entry pre s =
      alias-row (parse_name (length ts) s) _ (weaken (parse_name (length ts) s) (name (length ts) s)) (λ k r.
      alias-key (among (get_or ts k []) (keys pre)) _
      (alias-row (parse_name (length ts) r) _ (weaken (parse_name (length ts) r) (name (length ts) r)) (λ j q. tt)))

  alias-entries : (n : ℕ) (pre : Dictionary) (s : List ℕ) → FineAliases (parse_entries ts n pre s)
  unfolding parse_entries
  alias-entries zero pre s = tt
  alias-entries (suc n) pre s = alias-row (parse_entry ts pre s) _ (alias-entry pre s) (λ e r. alias-entries n (pre ++ (e ∷ [])) r)

  pub aliases-numbers : (d : List ℕ) → FineAliases (parse_aliases ts d)
  unfolding parse_aliases all_entries
  aliases-numbers d =
      alias-row (parse read_count d) (all_entries ts) (weaken (parse read_count d) (code read_count d (groups-codes 4 7 d))) (λ n s.
      alias-row (parse_entries ts n [] s) ended (alias-entries n [] s) (λ es r. weaken (ended es r) (end es r)))
