-- THE NAMES OF A ZONE THAT WAS READ stand where its codes' first bytes say. Assumes nothing.
use Rattle.base.specs.declared.Refusal.TheVariants.{BadData, BadInterval, BadRecurrence, TooLarge}
use mathlib.Core.Path.{◌≡◌, refl, sym, ap, ◌∙◌, subst}
use mathlib.Core.Bool.{Bool, true, false}
use mathlib.Core.List.{List, [], ◌∷◌, ◌++◌}
use Prim.Native.Nat.{ℕ, zero, suc, ◌+◌, ◌≤◌, ◌<◌}
use native.Mathlib.Omega.{arith}
use lib.Dec.{ltb, eqb}
use lib.ListN.{length, drop, get_or, length-drop, drop_of_length-le}
use borrow.Author.Tests.{ltb-true, ltb-false, lt-ltb, le-ltb, eqb-true, eqb-false, ne_eqb}
use Rattle.base.specs.Pick.{pick, both}
use Rattle.base.specs.Parsed.{Parsed, got, bad, bind, parse, parse_byte, ended, prepend, many, behind}
use Rattle.base.specs.Moment.{end_of_time}
use Rattle.base.proofs.ParseLaws.{bad-got, got-value, got-rest, bind-good, pick_good, pick-bad, ended-good}
use Rattle.counts.specs.Count.{read_count}
use Rattle.offsets.specs.Offset.{in_day, read_sum}
use Rattle.transitions.specs.Transition.{read_moment}
use Rattle.places.specs.Name.{read_zigzag, parse_name}
use Rattle.rules.specs.declared.Rule.{Rule}
use Rattle.rules.specs.Fields.{byte_ok, month_ok, day_ok, time_ok, rule_of, sum_ok}
use Rattle.intervals.specs.declared.Interval.{Interval}
use Rattle.intervals.specs.Interval.{standard_sum, judge_standard, after_wall, after_name, parse_details, rises, after_start, parse_interval, start_of}
use Rattle.tails.specs.declared.Standard.{Standard}
use Rattle.tails.specs.declared.NamedTail.{NamedTail}
use Rattle.tails.specs.Tail.{after_time, parse_time, after_day, parse_day, after_month, parse_month, after_byte, parse_rule, standard_of, after_standard_name, after_offset, parse_standard, tail_of, after_savings, parse_savings, after_daylight_name, parse_daylight, parse_tail}
use Rattle.zones.specs.Content.{Ending, untailed, tailed, absent, present, Body, fixed, listed, Zone}
use Rattle.zones.specs.Parse.{zone_of, after_tail, parse_tailed, after_tail_byte, after_end, after_intervals, parse_intervals, after_count, parse_listed, fixed_of, after_fixed_offset, parse_fixed, after_flag, after_id, parse_zone}
use Rattle.zones.proofs.SoundLaws.{zone-id}
use Rattle.mentions.specs.Content.{numbers_of}
use Rattle.counted_zones.specs.Steps.{count_end, moment_end, sum_end, number_at, number_end, interval_end, list_names, list_end, rule_end, daylight_at, tail_names, tail_end, tail_at, body_names, body_end, zone_names, zone_end}
use Rattle.renumbered_zones.specs.Renamed.{interval_names, ending_names, fixed_names, names_of}
use Rattle.renumbered_zones.specs.Renamed.{body_names as content_names}
use Rattle.renumbered_zones.proofs.ZoneLaws.{zone-numbers}
use Rattle.stepped_zones.proofs.CodeLaws.{Ends, groups-ends, number-ends, name-ends, byte-ends, sum-ends, moment-ends}

module _ (pool : ℕ) (few : pool ≤ 8192) (s : List ℕ) where
  -- ---- an interval
  interval-ends : (prev p : ℕ) (i : Interval) (q : List ℕ) → parse_interval pool prev (drop p s) ≡ got i q
      → (i.name ≡ number_at s (moment_end s p)) × Ends s q (interval_end s p)
  unfolding parse_interval after_start parse_details after_name after_wall judge_standard interval_end
  interval-ends prev p i q e =
      let a = bind-good (parse (read_moment prev) (drop p s)) (after_start pool prev) i q e in
      let m : ℕ = a.first in
      let a' = moment-ends prev s p m a.rest a.is in
      let b = pick_good (rises prev m) (parse_details pool m a.rest) BadInterval i q a.on in
      let c = bind-good (parse_name pool (drop (moment_end s p) s)) (after_name m) i q
      (subst (λ (x : List ℕ). bind (parse_name pool x) (after_name m) ≡ got i q) a'.rest b.1) in
      let k : ℕ = c.first in
      let c' = name-ends s (moment_end s p) k c.rest pool few c.is in
      let d = bind-good (parse read_sum (drop (number_end s (moment_end s p)) s)) (after_wall m k) i q
      (subst (λ (x : List ℕ). bind (parse read_sum x) (after_wall m k) ≡ got i q) c'.1.rest c.on) in
      let w : ℕ = d.first in
      let d' = sum-ends s (number_end s (moment_end s p)) w d.rest d.is in
      let f = bind-good (parse read_sum (drop (sum_end s (number_end s (moment_end s p))) s)) (judge_standard m k w) i q
      (subst (λ (x : List ℕ). bind (parse read_sum x) (judge_standard m k w) ≡ got i q) d'.rest d.on) in
      let v : ℕ = f.first in
      let f' = sum-ends s (sum_end s (number_end s (moment_end s p))) v f.rest f.is in
      let g = pick_good (in_day (standard_sum w v)) (got (record { start = m; name = k; wall = w; savings = v }) f.rest) BadInterval i q f.on in (
        ap (λ (x : Interval). x.name) (sym (got-value g.1)) ∙ c'.0,
        record { rest = sym (got-rest g.1) ∙ f'.rest; within = f'.within },
      )

  list-ends : (n prev p : ℕ) (is : List Interval) (q : List ℕ) → p ≤ length s → many (parse_interval pool) start_of n prev (drop p s) ≡ got is q
      → (interval_names is ≡ list_names s p n) × Ends s q (list_end s p n)
  unfolding many interval_names list_names list_end
  list-ends zero prev p is q h e = (ap interval_names (sym (got-value e)), record { rest = sym (got-rest e); within = h })
  list-ends (suc n) prev p is q h e =
      let a = bind-good (parse_interval pool prev (drop p s)) (λ i r. bind (many (parse_interval pool) start_of n i.start r) (prepend i)) is q e in
      let i : Interval = a.first in
      let a' = interval-ends prev p i a.rest a.is in
      let c = bind-good (many (parse_interval pool) start_of n i.start (drop (interval_end s p) s)) (prepend i) is q
      (subst (λ (x : List ℕ). bind (many (parse_interval pool) start_of n i.start x) (prepend i) ≡ got is q) a'.1.rest a.on) in
      let c' = list-ends n i.start (interval_end s p) c.first c.rest a'.1.within c.is in
      let o : got (i ∷ c.first) c.rest ≡ got is q = c.on in (
        ap interval_names (sym (got-value o)) ∙ ap (λ (x : ℕ). x ∷ interval_names c.first) a'.0 ∙ ap (λ (x : List ℕ). number_at s (moment_end s p) ∷ x) c'.0,
        record { rest = sym (got-rest o) ∙ c'.1.rest; within = c'.1.within },
      )

  -- ---- a tail
  rule-ends : (p : ℕ) (x : Rule) (q : List ℕ) → parse_rule (drop p s) ≡ got x q → Ends s q (rule_end s p)
  unfolding parse_rule after_byte parse_month after_month parse_day after_day parse_time after_time rule_end
  rule-ends p x q e =
      let a = bind-good (parse_byte (drop p s)) after_byte x q e in
      let b : ℕ = a.first in
      let a' = byte-ends s p b a.rest a.is in
      let a'' = pick_good (byte_ok b) (parse_month b a.rest) BadRecurrence x q a.on in
      let c = bind-good (parse read_count (drop (p + 1) s)) (after_month b) x q
      (subst (λ (y : List ℕ). bind (parse read_count y) (after_month b) ≡ got x q) a'.1.rest a''.1) in
      let m : ℕ = c.first in
      let c' = groups-ends s (p + 1) m c.rest 7 c.is in
      let c'' = pick_good (month_ok m) (parse_day b m c.rest) BadRecurrence x q c.on in
      let d = bind-good (parse read_zigzag (drop (count_end s (p + 1)) s)) (after_day b m) x q
      (subst (λ (y : List ℕ). bind (parse read_zigzag y) (after_day b m) ≡ got x q) c'.rest c''.1) in
      let z : ℕ = d.first in
      let d' = groups-ends s (count_end s (p + 1)) z d.rest 15 d.is in
      let d'' = pick_good (day_ok m z) (parse_time b m z d.rest) BadRecurrence x q d.on in
      let f = bind-good (parse read_sum (drop (count_end s (count_end s (p + 1))) s)) (after_time b m z) x q
      (subst (λ (y : List ℕ). bind (parse read_sum y) (after_time b m z) ≡ got x q) d'.rest d''.1) in
      let t : ℕ = f.first in
      let f' = sum-ends s (count_end s (count_end s (p + 1))) t f.rest f.is in
      let g = pick_good (time_ok t) (got (rule_of b m z t) f.rest) BadRecurrence x q f.on in
      record { rest = sym (got-rest g.1) ∙ f'.rest; within = f'.within }

  standard-stands : (start p : ℕ) (x : Standard) (r : List ℕ) → parse_standard pool start (drop p s) ≡ got x r
      → (x.name ≡ number_at s (sum_end s p)) × Ends s r (rule_end s (number_end s (sum_end s p)))
  unfolding parse_standard after_offset after_standard_name
  standard-stands start p x r e =
      let b = bind-good (parse read_sum (drop p s)) (after_offset pool start) x r e in
      let o : ℕ = b.first in
      let b' = sum-ends s p o b.rest b.is in
      let c = bind-good (parse_name pool (drop (sum_end s p) s)) (after_standard_name start o) x r
      (subst (λ (y : List ℕ). bind (parse_name pool y) (after_standard_name start o) ≡ got x r) b'.rest b.on) in
      let k : ℕ = c.first in
      let c' = name-ends s (sum_end s p) k c.rest pool few c.is in
      let d = bind-good (parse_rule (drop (number_end s (sum_end s p)) s)) (standard_of start o k) x r
      (subst (λ (y : List ℕ). bind (parse_rule y) (standard_of start o k) ≡ got x r) c'.1.rest c.on) in
      let d' = rule-ends (number_end s (sum_end s p)) d.first d.rest d.is in
      (ap (λ (y : Standard). y.name) (sym (got-value d.on)) ∙ c'.0, record { rest = sym (got-rest d.on) ∙ d'.rest; within = d'.within })

  named-so : (x : Standard) (l : ℕ) (r : List ℕ) (t : NamedTail) (q : List ℕ) → after_daylight_name x l r ≡ got t q → (t.standard ≡ x.name) × (t.daylight ≡ l)
  unfolding after_daylight_name parse_savings after_savings
  named-so x l r t q e =
      let g = bind-good (parse_rule r) (parse_savings x l) t q e in
      let h = bind-good (parse read_sum g.rest) (after_savings x l g.first) t q g.on in
      let v = pick_good (sum_ok x.offset h.first) (got (tail_of x l g.first h.first) h.rest) BadRecurrence t q h.on in
      (ap (λ (y : NamedTail). y.standard) (sym (got-value v.1)), ap (λ (y : NamedTail). y.daylight) (sym (got-value v.1)))

  daylight-stands : (p : ℕ) (x : Standard) (t : NamedTail) (q : List ℕ) → parse_daylight pool x (drop p s) ≡ got t q
      → (t.standard ≡ x.name) × (t.daylight ≡ number_at s p) × (number_end s p ≤ length s)
  unfolding parse_daylight
  daylight-stands p x t q e =
      let f = bind-good (parse_name pool (drop p s)) (after_daylight_name x) t q e in
      let f' = name-ends s p f.first f.rest pool few f.is in
      let n = named-so x f.first f.rest t q f.on in
      (n.0, n.1 ∙ f'.0, f'.1.within)

  tail-stands : (start p : ℕ) (t : NamedTail) (q : List ℕ) → parse_tail pool start (drop p s) ≡ got t q
      → (t.standard ∷ t.daylight ∷ [] ≡ number_at s (sum_end s p) ∷ number_at s (daylight_at s p) ∷ []) × (number_end s (daylight_at s p) ≤ length s)
  unfolding parse_tail daylight_at
  tail-stands start p t q e =
      let a = bind-good (parse_standard pool start (drop p s)) (parse_daylight pool) t q e in
      let a' = standard-stands start p a.first a.rest a.is in
      let b = daylight-stands (rule_end s (number_end s (sum_end s p))) a.first t q
      (subst (λ (y : List ℕ). parse_daylight pool a.first y ≡ got t q) a'.1.rest a.on) in
      (ap (λ (y : ℕ). y ∷ t.daylight ∷ []) (b.0 ∙ a'.0) ∙ ap (λ (y : ℕ). number_at s (sum_end s p) ∷ y ∷ []) b.1, b.2)

  -- ---- behind the intervals: the tail byte, and the tail
  end-stands : (id : ℕ) (is : List Interval) (end p : ℕ) (z : Zone) → after_end pool id is end (drop p s) ≡ got z []
      → (content_names z.body ≡ interval_names is ++ tail_names s p) × (tail_end s p ≤ length s)
  unfolding after_end after_tail_byte parse_tailed after_tail zone_of tail_names tail_end content_names ending_names
  end-stands id is end p z e =
      let a = bind-good (parse_byte (drop p s)) (after_tail_byte pool id is end) z [] e in
      let a' = byte-ends s p a.first a.rest a.is in
      go (eqb a.first 0) refl (eqb a.first 1) refl a.on a'.0 a'.1
    where
      go : {b : ℕ} {r : List ℕ} (t : Bool) → eqb b 0 ≡ t → (u : Bool) → eqb b 1 ≡ u
          → pick t (pick (eqb end end_of_time) (zone_of id (listed is end untailed) r) (bad BadInterval))
          (pick u (pick (both (ltb (behind start_of end_of_time is) end) (ltb end end_of_time)) (parse_tailed pool id is end r) (bad BadInterval)) (bad BadData))
          ≡ got z [] → b ≡ get_or s p 0 → Ends s r (p + 1)
          → (content_names z.body ≡ interval_names is ++ pick (eqb (get_or s p 0) 1) (number_at s (sum_end s (p + 1)) ∷ number_at s (daylight_at s (p + 1)) ∷ []) [])
          × (pick (eqb (get_or s p 0) 1) (number_end s (daylight_at s (p + 1))) (p + 1) ≤ length s)
      go {b} {r} true h u k f i j =
          let x = pick_good (eqb end end_of_time) (zone_of id (listed is end untailed) r) BadInterval z [] f in
          let y = ended-good (record { id = id; body = listed is end untailed }) z r [] x.1 in
          let o : eqb (get_or s p 0) 1 ≡ false = ne_eqb (get_or s p 0) 1 (λ c. let d = eqb-true b 0 h in omega arith) in
          rw o (ap (λ (w : Zone). content_names w.body) (sym y.0), j.within)
      go {b} {r} false h true k f i j =
          let x = pick_good (both (ltb (behind start_of end_of_time is) end) (ltb end end_of_time)) (parse_tailed pool id is end r) BadInterval z [] f in
          let y = bind-good (parse_tail pool end (drop (p + 1) s)) (after_tail id is end) z []
          (subst (λ (w : List ℕ). bind (parse_tail pool end w) (after_tail id is end) ≡ got z []) j.rest x.1) in
          let n = tail-stands end (p + 1) y.first y.rest y.is in
          let c = ended-good (record { id = id; body = listed is end (tailed y.first) }) z y.rest [] y.on in
          let o : get_or s p 0 ≡ 1 = sym i ∙ eqb-true b 1 k in
          rw o (ap (λ (w : Zone). content_names w.body) (sym c.0) ∙ ap (λ (w : List ℕ). interval_names is ++ w) n.0, n.1)
      go {b} {r} false h false k f i j = bad-got f

  -- ---- from the flag on
  listed-stands : (id p : ℕ) (z : Zone) → parse_listed pool id (drop p s) ≡ got z []
      → (content_names z.body ≡ list_names s (number_end s p) (number_at s p) ++ tail_names s (tail_at s p)) × (tail_end s (tail_at s p) ≤ length s)
  unfolding parse_listed after_count after_intervals tail_at
  listed-stands id p z e =
      let a = bind-good (parse read_count (drop p s)) (after_count pool id) z [] e in
      let n : ℕ = a.first in
      let b = pick-bad (eqb n 0) _ BadInterval z [] a.on in
      let c = pick-bad (ltb 4096 n) _ TooLarge z [] b.1 in
      let l = ltb-false 4096 n c.0 in
      let a' = number-ends s p n a.rest a.is (omega arith) in
      let d = bind-good (many (parse_interval pool) start_of n end_of_time (drop (number_end s p) s)) (after_intervals pool id) z []
      (subst (λ (x : List ℕ). bind (many (parse_interval pool) start_of n end_of_time x) (after_intervals pool id) ≡ got z []) a'.1.rest c.1) in
      let is : List Interval = d.first in
      let d' = list-ends n end_of_time (number_end s p) is d.rest a'.1.within d.is in
      let q : ℕ = list_end s (number_end s p) n in
      let f = bind-good (parse (read_moment (behind start_of end_of_time is)) (drop q s)) (after_end pool id is) z []
      (subst (λ (x : List ℕ). bind (parse (read_moment (behind start_of end_of_time is)) x) (after_end pool id is) ≡ got z []) d'.1.rest d.on) in
      let f' = moment-ends (behind start_of end_of_time is) s q f.first f.rest f.is in
      let g = end-stands id is f.first (moment_end s q) z (subst (λ (x : List ℕ). after_end pool id is f.first x ≡ got z []) f'.rest f.on) in
      rw (← a'.0) (g.0 ∙ ap (λ (x : List ℕ). x ++ tail_names s (moment_end s q)) d'.0, g.1)

  fixed-stands : (id p : ℕ) (z : Zone) → parse_fixed pool id (drop p s) ≡ got z []
      → (content_names z.body ≡ pick (ltb (sum_end s p) (length s)) (number_at s (sum_end s p) ∷ []) [])
      × (pick (ltb (sum_end s p) (length s)) (number_end s (sum_end s p)) (sum_end s p) ≤ length s)
  unfolding parse_fixed after_fixed_offset zone_of content_names fixed_names
  fixed-stands id p z e =
      let a = bind-good (parse read_sum (drop p s)) (after_fixed_offset pool id) z [] e in
      let a' = sum-ends s p a.first a.rest a.is in
      go a.rest a.first (sym a'.rest) a.on a'.within
    where
      q : ℕ
      q = sum_end s p

      go : (r : List ℕ) (o : ℕ) → drop (sum_end s p) s ≡ r → after_fixed_offset pool id o r ≡ got z [] → sum_end s p ≤ length s
          → (content_names z.body ≡ pick (ltb (sum_end s p) (length s)) (number_at s (sum_end s p) ∷ []) [])
          × (pick (ltb (sum_end s p) (length s)) (number_end s (sum_end s p)) (sum_end s p) ≤ length s)
      go [] o h f w =
          let l : length (drop (sum_end s p) s) ≡ 0 = ap length h in
          let y = ended-good (record { id = id; body = fixed o absent }) z [] [] f in
          rw (le-ltb (sum_end s p) (length s) (omega (arith, l, length-drop (sum_end s p) s))) (ap (λ (x : Zone). content_names x.body) (sym y.0), w)
      go (c ∷ r) o h f w =
          let l : length (drop (sum_end s p) s) ≡ length (c ∷ r) = ap length h in
          let b = bind-good (parse_name pool (drop (sum_end s p) s)) (fixed_of id o) z []
          (subst (λ (x : List ℕ). bind (parse_name pool x) (fixed_of id o) ≡ got z []) (sym h) f) in
          let b' = name-ends s (sum_end s p) b.first b.rest pool few b.is in
          let y = ended-good (record { id = id; body = fixed o (present b.first) }) z b.rest [] b.on in
          rw (lt-ltb (sum_end s p) (length s) (omega (arith, l, length-drop (sum_end s p) s)))
          (ap (λ (x : Zone). content_names x.body) (sym y.0) ∙ ap (λ (x : ℕ). x ∷ []) b'.0, b'.1.within)

  body-stands : (id p : ℕ) (z : Zone) → bind (parse_byte (drop p s)) (after_flag pool id) ≡ got z []
      → (content_names z.body ≡ body_names s p) × (body_end s p ≤ length s)
  unfolding after_flag body_names body_end
  body-stands id p z e =
      let b = bind-good (parse_byte (drop p s)) (after_flag pool id) z [] e in
      let b' = byte-ends s p b.first b.rest b.is in
      go (eqb b.first 1) refl (eqb b.first 2) refl
      (subst (λ (x : List ℕ). after_flag pool id b.first x ≡ got z []) b'.1.rest b.on) b'.0
    where
      go : {flag : ℕ} (t : Bool) → eqb flag 1 ≡ t → (u : Bool) → eqb flag 2 ≡ u
          → pick t (parse_fixed pool id (drop (p + 1) s)) (pick u (parse_listed pool id (drop (p + 1) s)) (bad BadData)) ≡ got z [] → flag ≡ get_or s p 0
          → (content_names z.body ≡ body_names s p) × (body_end s p ≤ length s)
      go {flag} true h u k f i = let o : get_or s p 0 ≡ 1 = sym i ∙ eqb-true flag 1 h in rw o (fixed-stands id (p + 1) z f)
      go {flag} false h true k f i =
          let o : eqb (get_or s p 0) 1 ≡ false = ap (λ (x : ℕ). eqb x 1) (sym i) ∙ h in
          rw o (listed-stands id (p + 1) z f)
      go {flag} false h false k f i = bad-got f

  zone-stands : (z : Zone) → parse_zone pool s ≡ got z [] → (names_of z ≡ zone_names s) × (zone_end s ≤ length s)
  unfolding parse_zone after_id zone_names zone_end
  zone-stands z e =
      let a = bind-good (parse_name pool s) (after_id pool) z [] e in
      let a' = name-ends s 0 a.first a.rest pool few a.is in
      let b = body-stands a.first (number_end s 0) z
      (subst (λ (x : List ℕ). bind (parse_byte x) (after_flag pool a.first) ≡ got z []) a'.1.rest a.on) in
      let i : z.id ≡ number_at s 0 = zone-id pool s z [] a.first a.rest a.is e ∙ a'.0 in
      (ap (λ (x : ℕ). x ∷ content_names z.body) i ∙ ap (λ (x : List ℕ). number_at s 0 ∷ x) b.0, b.1)

-- THE NUMBERS THAT A GOOD ZONE MENTIONS are those that its codes' first bytes lead to, all of them inside its data
pub zone-stepped : (pool : ℕ) → pool ≤ 8192 → (s : List ℕ) (z : Zone) → parse_zone pool s ≡ got z [] → (zone_names s ≡ numbers_of 1 s) × (zone_end s ≤ length s)
zone-stepped pool few s z e =
    let t = zone-stands pool few s z e in
    (sym t.0 ∙ sym (zone-numbers pool s z e), t.1)
