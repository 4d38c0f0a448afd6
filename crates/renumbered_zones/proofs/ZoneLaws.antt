-- THE LAWS OF A RENUMBERED ZONE: the walk over mentions meets its pool numbers, and its renumbered data are those of the zone with these numbers
-- renumbered. Assumes nothing.
use Rattle.base.specs.declared.Refusal.TheVariants.{BadData, BadInterval, TooLarge}
use mathlib.Core.Path.{◌≡◌, refl, sym, ap, ◌∙◌, subst, subst⁻¹}
use mathlib.Core.Bool.{Bool, true, false}
use mathlib.Core.List.{List, [], ◌∷◌, ◌++◌}
use Prim.Native.Nat.{ℕ, ◌≤◌, ◌<◌}
use native.Mathlib.Omega.{arith}
use lib.Dec.{eqb, ltb}
use lib.ListN.{length}
use borrow.Author.Tests.{eqb-true}
use Rattle.base.specs.All.{All, all_none, all-also}
use Rattle.base.specs.Pick.{pick, both}
use Rattle.base.specs.Parsed.{Parsed, got, bad, bind, parse, parse_byte, ended, many, behind}
use Rattle.base.specs.Moment.{end_of_time}
use Rattle.base.proofs.AllLaws.{all_head, all_tail, all_left, all_right}
use Rattle.base.proofs.ParseLaws.{bad-got, bind-good, pick_good, pick-bad, ended-good}
use Rattle.counts.specs.Groups.{read_groups}
use Rattle.counts.specs.Count.{read_count}
use Rattle.offsets.specs.Offset.{read_sum}
use Rattle.transitions.specs.Transition.{read_moment}
use Rattle.places.specs.Name.{parse_name}
use Rattle.intervals.specs.declared.Interval.{Interval}
use Rattle.intervals.specs.Interval.{parse_interval, start_of}
use Rattle.tails.specs.declared.NamedTail.{NamedTail}
use Rattle.tails.specs.Tail.{parse_tail}
use Rattle.zones.specs.Content.{Ending, untailed, tailed, absent, present, Body, fixed, listed, Zone}
use Rattle.zones.specs.Parse.{zone_of, after_tail, parse_tailed, after_tail_byte, after_end, after_intervals, parse_intervals, after_count, parse_listed, fixed_of, after_fixed_offset, parse_fixed, after_flag, after_id, parse_zone}
use Rattle.zones.proofs.SoundLaws.{zone-id}
use Rattle.mentions.specs.declared.Stage.TheVariants.{Zone as Whole, Flag, Rest}
use Rattle.mentions.specs.Walk.{no_more, behind_end, behind_start, behind_offset, behind_interval_count, behind_id, ahead_of, first_stage}
use Rattle.mentions.specs.Content.{numbers_of, renumbered}
use Rattle.mentions.proofs.WalkLaws.{Left, left-bind, left-pick, left-parse, left-none, left_end, left-start}
use Rattle.mentions.proofs.FrontLaws.{count-front, sum-front, moment-front, byte-front}
use Rattle.mentions.proofs.StepLaws.{Ahead, Reads, then-reads, code_reads, name-reads, last-reads, test-reads, same_reads, whole_again, whole_numbers}
use Rattle.renumbered_zones.specs.Renamed.{renamed_intervals, renamed_ending, renamed_name, renamed_body, renamed_zone, interval_names, ending_names, fixed_names, body_names, names_of}
use Rattle.renumbered_zones.proofs.IntervalLaws.{intervals-read}
use Rattle.renumbered_zones.proofs.TailLaws.{to_standard, tail-reads}

-- a zone of a body that was read is at its end
zone-is : (id : ℕ) (b : Body) (s : List ℕ) (z : Zone) → zone_of id b s ≡ got z [] → (record { id = id; body = b } ≡ z) × (s ≡ [])
unfolding zone_of
zone-is id b s z e = let k = ended-good (record { id = id; body = b }) z s [] e in (k.0, k.1)

zone-ends : (id : ℕ) (b : Body) → zone_of id b [] ≡ got (record { id = id; body = b }) []
unfolding zone_of ended
zone-ends id b = refl

at_rest : (s : List ℕ) → ahead_of Rest s ≡ no_more
unfolding ahead_of
at_rest s = refl

-- where a name follows the offset of a fixed zone
name-follows : (pool id offset : ℕ) (s : List ℕ) (n : ℕ) (r : List ℕ) → parse_name pool s ≡ got n r
    → after_fixed_offset pool id offset s ≡ bind (parse_name pool s) (fixed_of id offset)
unfolding after_fixed_offset parse_name read_groups
name-follows pool id offset [] n r e = bad-got e
name-follows pool id offset (b ∷ s) n r e = refl

-- what is ahead behind the flag
abbrev to_rest : ℕ → Ahead
to_rest flag s = pick (eqb flag 1) (behind_offset s) (pick (eqb flag 2) (behind_interval_count s) no_more)

left-rest : (flag : ℕ) (s : List ℕ) → Left (length s) (to_rest flag s)
unfolding behind_offset behind_interval_count
left-rest flag s =
    let n : ℕ = length s in
    left-pick n (eqb flag 1) _ _ (left-bind n (parse read_sum s) _ (left-parse read_sum n s (omega arith)) (λ x y h. h))
    (left-pick n (eqb flag 2) _ no_more
    (left-bind n (parse read_count s) _ (left-parse read_count n s (omega arith)) (λ x y h. left-start n end_of_time x y h)) (left-none n))

-- ... and behind the tail byte
abbrev to_tail : ℕ → Ahead
to_tail b s = pick (eqb b 1) (to_standard s) no_more

left-tail : (b : ℕ) (s : List ℕ) → Left (length s) (to_tail b s)
left-tail b s =
    let n : ℕ = length s in
    left-pick n (eqb b 1) (to_standard s) no_more (left-bind n (parse read_sum s) _ (left-parse read_sum n s (omega arith)) (λ x y h. h)) (left-none n)

behind-renamed : (ρ : ℕ → ℕ) (prev : ℕ) (is : List Interval) → behind start_of prev (renamed_intervals ρ is) ≡ behind start_of prev is
unfolding behind renamed_intervals
behind-renamed ρ prev [] = refl
behind-renamed ρ prev (i ∷ is) = behind-renamed ρ i.start is

module _ (ρ : ℕ → ℕ) (pool pool' : ℕ) (few : pool' ≤ 8192) where
  abbrev Fit : List ℕ → Type 0
  Fit ns = All (λ k. ρ k < pool') ns

  -- p reads the zone z, renamed, from what is ahead in s to the end
  abbrev Rereads : Ahead → List ℕ → (List ℕ → Parsed Zone) → Zone → Type 0
  Rereads κ s p z = Fit (body_names z.body) → Reads ρ κ s p (renamed_zone ρ z) (body_names z.body) (ahead_of Rest) []

  -- ---- "Flag 1, fixed: offset, then name"
  module _ (id : ℕ) where
    offset_read : (offset : ℕ) (s : List ℕ) (z : Zone) → after_fixed_offset pool id offset s ≡ got z []
        → Rereads (λ r. got Rest r) s (after_fixed_offset pool' (ρ id) offset) z
    unfolding after_fixed_offset body_names renamed_body fixed_names renamed_name
    offset_read offset [] z e =
        subst (Rereads (λ r. got Rest r) [] (after_fixed_offset pool' (ρ id) offset)) (zone-is id (fixed offset absent) [] z e).0
        (λ f. last-reads ρ (λ r. got Rest r) [] Rest (after_fixed_offset pool' (ρ id) offset) _ refl (zone-ends (ρ id) (fixed offset absent)))
    offset_read offset (b ∷ s) z e =
        let a = bind-good (parse_name pool (b ∷ s)) (fixed_of id offset) z [] e in
        let o = zone-is id (fixed offset (present a.first)) a.rest z a.on in
        subst (Rereads (λ r. got Rest r) (b ∷ s) (after_fixed_offset pool' (ρ id) offset)) o.0
        (λ f. named (b ∷ s) a.first (a.is ∙ ap (got a.first) o.1) (all_head f))
      where
        named : (s : List ℕ) (n : ℕ) → parse_name pool s ≡ got n [] → ρ n < pool'
            → Reads ρ (λ r. got Rest r) s (after_fixed_offset pool' (ρ id) offset) (record { id = ρ id; body = fixed offset (present (ρ n)) })
            (n ∷ []) (ahead_of Rest) []
        named s n e f =
            let r = name-reads ρ (λ r. got Rest r) s Rest n [] refl pool pool' few e f in
            let t = then-reads ρ (fixed_of (ρ id) offset) r
            (last-reads ρ (ahead_of Rest) [] Rest (fixed_of (ρ id) offset (ρ n)) _ (at_rest []) (zone-ends (ρ id) (fixed offset (present (ρ n))))) in
            record { again = name-follows pool' (ρ id) offset _ (ρ n) _ r.again ∙ t.again; numbers = t.numbers }

    fixed_reads : (s : List ℕ) (z : Zone) → parse_fixed pool id s ≡ got z [] → Rereads behind_offset s (parse_fixed pool' (ρ id)) z
    unfolding parse_fixed behind_offset
    fixed_reads s z e f =
        let a = bind-good (parse read_sum s) (after_fixed_offset pool id) z [] e in
        then-reads ρ (after_fixed_offset pool' (ρ id))
        (code_reads ρ behind_offset (parse read_sum) (λ n r. got Rest r) s a.first a.rest refl (sum-front s a.first a.rest a.is)
        (omega arith))
        (offset_read a.first a.rest z a.on f)

  -- ---- "then the end transition; tail byte 0 or 1; the tail if 1"
  module _ (id : ℕ) (is : List Interval) (end : ℕ) where
    -- what follows the end transition, as p reads it
    record Ends (κ : Ahead) (s : List ℕ) (p : List ℕ → Parsed Zone) (z : Zone) : Type 0 where
      ending : Ending
      zone : record { id = id; body = listed is end ending } ≡ z
      reads : Fit (ending_names ending)
          → Reads ρ κ s p (record { id = ρ id; body = listed (renamed_intervals ρ is) end (renamed_ending ρ ending) }) (ending_names ending)
          (ahead_of Rest) []

    untailed-ends : (s : List ℕ) (z : Zone) → after_tail_byte pool id is end 0 s ≡ got z []
        → Ends (to_tail 0) s (after_tail_byte pool' (ρ id) (renamed_intervals ρ is) end 0) z
    unfolding after_tail_byte ending_names renamed_ending
    untailed-ends s z e =
        let a = pick_good (eqb end end_of_time) (zone_of id (listed is end untailed) s) BadInterval z [] e in
        let o = zone-is id (listed is end untailed) s z a.1 in
        record {
          ending = untailed;
          zone = o.0;
          reads = λ f.
              test-reads ρ (eqb end end_of_time) BadInterval a.0
              (last-reads ρ (to_tail 0) s Rest (zone_of (ρ id) (listed (renamed_intervals ρ is) end untailed)) _ refl
              (ap (zone_of (ρ id) (listed (renamed_intervals ρ is) end untailed)) o.1
              ∙ zone-ends (ρ id) (listed (renamed_intervals ρ is) end untailed)));
        }

    tailed-ends : (s : List ℕ) (z : Zone) → after_tail_byte pool id is end 1 s ≡ got z []
        → Ends (to_tail 1) s (after_tail_byte pool' (ρ id) (renamed_intervals ρ is) end 1) z
    unfolding after_tail_byte parse_tailed after_tail ending_names renamed_ending
    tailed-ends s z e =
        let a = pick_good (both (ltb (behind start_of end_of_time is) end) (ltb end end_of_time)) (parse_tailed pool id is end s) BadInterval z [] e in
        let b = bind-good (parse_tail pool end s) (after_tail id is end) z [] a.1 in
        let n : NamedTail = b.first in
        let o = zone-is id (listed is end (tailed n)) b.rest z b.on in
        let t : both (ltb (behind start_of end_of_time (renamed_intervals ρ is)) end) (ltb end end_of_time) ≡ true =
        ap (λ (m : ℕ). both (ltb m end) (ltb end end_of_time)) (behind-renamed ρ end_of_time is) ∙ a.0 in
        record {
          ending = tailed n;
          zone = o.0;
          reads = λ f.
              test-reads ρ _ BadInterval t
              (then-reads ρ (after_tail (ρ id) (renamed_intervals ρ is) end)
              (tail-reads ρ pool pool' few end s n (b.is ∙ ap (got n) o.1) (all_head f) (all_head (all_tail f)))
              (last-reads ρ (ahead_of Rest) [] Rest (after_tail (ρ id) (renamed_intervals ρ is) end _) _ (at_rest []) (zone-ends (ρ id) _)));
        }

    byte-ends : (b : ℕ) (s : List ℕ) (z : Zone) → after_tail_byte pool id is end b s ≡ got z []
        → Ends (to_tail b) s (after_tail_byte pool' (ρ id) (renamed_intervals ρ is) end b) z
    unfolding after_tail_byte
    byte-ends b s z e = go (eqb b 0) (eqb b 1) refl refl e
      where
        go : (t u : Bool) → eqb b 0 ≡ t → eqb b 1 ≡ u
            → pick t (pick (eqb end end_of_time) (zone_of id (listed is end untailed) s) (bad BadInterval))
            (pick u (pick (both (ltb (behind start_of end_of_time is) end) (ltb end end_of_time)) (parse_tailed pool id is end s) (bad BadInterval)) (bad BadData))
            ≡ got z []
            → Ends (to_tail b) s (after_tail_byte pool' (ρ id) (renamed_intervals ρ is) end b) z
        go true u i j k =
            subst⁻¹ (λ (c : ℕ). Ends (to_tail c) s (after_tail_byte pool' (ρ id) (renamed_intervals ρ is) end c) z) (eqb-true b 0 i) (untailed-ends s z k)
        go false true i j k =
            subst⁻¹ (λ (c : ℕ). Ends (to_tail c) s (after_tail_byte pool' (ρ id) (renamed_intervals ρ is) end c) z) (eqb-true b 1 j) (tailed-ends s z k)
        go false false i j k = bad-got k

    end-ends : (s : List ℕ) (z : Zone) → after_end pool id is end s ≡ got z [] → Ends behind_end s (after_end pool' (ρ id) (renamed_intervals ρ is) end) z
    unfolding after_end behind_end
    end-ends s z e =
        let a = bind-good (parse_byte s) (after_tail_byte pool id is end) z [] e in
        let b : ℕ = a.first in
        let r : List ℕ = a.rest in
        let g = byte-ends b r z a.on in
        record {
          ending = g.ending;
          zone = g.zone;
          reads = λ f.
              then-reads ρ (after_tail_byte pool' (ρ id) (renamed_intervals ρ is) end)
              (code_reads ρ behind_end parse_byte to_tail s b r refl (byte-front s b r a.is) (left-tail b r))
              (g.reads f);
        }

  -- ---- "Flag 2: interval count ..; for each, transition ..; then the end transition"
  module _ (id : ℕ) where
    listed-reads : (s : List ℕ) (z : Zone) → parse_listed pool id s ≡ got z [] → Rereads behind_interval_count s (parse_listed pool' (ρ id)) z
    unfolding parse_listed after_count after_intervals behind_interval_count behind_start body_names renamed_body
    listed-reads s z e =
        let a = bind-good (parse read_count s) (after_count pool id) z [] e in
        let n : ℕ = a.first in
        let b = pick-bad (eqb n 0) _ BadInterval z [] a.on in
        let c = pick-bad (ltb 4096 n) _ TooLarge z [] b.1 in
        let d = bind-good (many (parse_interval pool) start_of n end_of_time a.rest) (after_intervals pool id) z [] c.1 in
        let is : List Interval = d.first in
        let last : ℕ = behind start_of end_of_time is in
        let g = bind-good (parse (read_moment last) d.rest) (after_end pool id is) z [] d.on in
        let h = end-ends id is g.first g.rest z g.on in
        subst (Rereads behind_interval_count s (parse_listed pool' (ρ id))) h.zone
        (λ f. parts s n a.rest is d.rest g.first g.rest h.ending a.is b.0 c.0 d.is g.is
        (all_left (interval_names is) (ending_names h.ending) f) (h.reads (all_right (interval_names is) (ending_names h.ending) f)))
      where
        counted : (n : ℕ) → eqb n 0 ≡ false → ltb 4096 n ≡ false → (x : List ℕ) → after_count pool' (ρ id) n x ≡ parse_intervals pool' (ρ id) n x
        counted n i j x = rw (i, j)

        on : (is : List Interval) (x : List ℕ)
            → after_intervals pool' (ρ id) (renamed_intervals ρ is) x
            ≡ bind (parse (read_moment (behind start_of end_of_time is)) x) (after_end pool' (ρ id) (renamed_intervals ρ is))
        on is x = rw (behind-renamed ρ end_of_time is)

        parts : (s : List ℕ) (n : ℕ) (r : List ℕ) (is : List Interval) (q : List ℕ) (end : ℕ) (t : List ℕ) (e : Ending) → parse read_count s ≡ got n r
            → eqb n 0 ≡ false → ltb 4096 n ≡ false → many (parse_interval pool) start_of n end_of_time r ≡ got is q
            → parse (read_moment (behind start_of end_of_time is)) q ≡ got end t → Fit (interval_names is)
            → Reads ρ behind_end t (after_end pool' (ρ id) (renamed_intervals ρ is) end)
            (record { id = ρ id; body = listed (renamed_intervals ρ is) end (renamed_ending ρ e) }) (ending_names e) (ahead_of Rest) []
            → Reads ρ behind_interval_count s (parse_listed pool' (ρ id))
            (record { id = ρ id; body = listed (renamed_intervals ρ is) end (renamed_ending ρ e) }) (interval_names is ++ ending_names e)
            (ahead_of Rest) []
        parts s n r is q end t e e₁ i j e₂ e₃ f g =
            let last : ℕ = behind start_of end_of_time is in
            then-reads ρ (after_count pool' (ρ id))
            (code_reads ρ behind_interval_count (parse read_count) (λ k. behind_start end_of_time k) s n r refl (count-front s n r e₁)
            (left-start (length r) end_of_time n r (omega arith)))
            (same_reads ρ (after_count pool' (ρ id) n) (counted n i j)
            (then-reads ρ (after_intervals pool' (ρ id)) (intervals-read ρ pool pool' few n end_of_time r is q e₂ f)
            (same_reads ρ (after_intervals pool' (ρ id) (renamed_intervals ρ is)) (on is)
            (then-reads ρ (after_end pool' (ρ id) (renamed_intervals ρ is))
            (code_reads ρ (behind_start last 0) (parse (read_moment last)) (λ k. behind_end) q end t refl (moment-front q end t last e₃)
            (left_end (length t) t (omega arith))) g))))

    -- ---- "A zone is ID, flag, rest"
    flag-reads : (flag : ℕ) (s : List ℕ) (z : Zone) → after_flag pool id flag s ≡ got z [] → Rereads (to_rest flag) s (after_flag pool' (ρ id) flag) z
    unfolding after_flag
    flag-reads flag s z e = go (eqb flag 1) (eqb flag 2) refl refl e
      where
        go : (t u : Bool) → eqb flag 1 ≡ t → eqb flag 2 ≡ u → pick t (parse_fixed pool id s) (pick u (parse_listed pool id s) (bad BadData)) ≡ got z []
            → Rereads (to_rest flag) s (after_flag pool' (ρ id) flag) z
        go true u i j k = subst⁻¹ (λ (c : ℕ). Rereads (to_rest c) s (after_flag pool' (ρ id) c) z) (eqb-true flag 1 i) (fixed_reads id s z k)
        go false true i j k = subst⁻¹ (λ (c : ℕ). Rereads (to_rest c) s (after_flag pool' (ρ id) c) z) (eqb-true flag 2 j) (listed-reads s z k)
        go false false i j k = bad-got k

  zone-reads : (d : List ℕ) (z : Zone) → parse_zone pool d ≡ got z [] → Fit (names_of z)
      → Reads ρ (ahead_of Whole) d (parse_zone pool') (renamed_zone ρ z) (names_of z) (ahead_of Rest) []
  unfolding parse_zone after_id ahead_of behind_id
  zone-reads d z e =
      let a = bind-good (parse_name pool d) (after_id pool) z [] e in
      let id : ℕ = a.first in
      let b = bind-good (parse_byte a.rest) (after_flag pool id) z [] a.on in
      subst
      (λ (i : ℕ). Fit (i ∷ body_names z.body)
      → Reads ρ (ahead_of Whole) d (parse_zone pool') (renamed_zone ρ z) (i ∷ body_names z.body) (ahead_of Rest) [])
      (sym (zone-id pool d z [] id a.rest a.is e))
      (λ f. then-reads ρ (after_id pool') (name-reads ρ (ahead_of Whole) d Flag id a.rest refl pool pool' few a.is (all_head f))
      (then-reads ρ (after_flag pool' (ρ id))
      (code_reads ρ (ahead_of Flag) parse_byte to_rest a.rest b.first b.rest refl (byte-front a.rest b.first b.rest b.is)
      (left-rest b.first b.rest))
      (flag-reads id b.first b.rest z b.on (all_tail f))))

-- THE WALK OVER MENTIONS MEETS THE POOL NUMBERS OF A ZONE, in file order
pub zone-numbers : (pool : ℕ) (d : List ℕ) (z : Zone) → parse_zone pool d ≡ got z [] → numbers_of 1 d ≡ names_of z
unfolding first_stage
zone-numbers pool d z e =
    let r = zone-reads (λ k. 0) pool 1 (omega arith) d z e (all (names_of z)) in
    whole_numbers (λ k. 0) Whole d (ahead_of Rest) Rest (at_rest []) r
  where
    all : (ns : List ℕ) → All (λ k. 0 < 1) ns
    all [] = all_none
    all (n ∷ ns) = all-also (omega arith) (all ns)

-- THE RENUMBERED DATA OF A ZONE are those of the zone with its pool numbers renumbered
pub zone-renumbered : (ρ : ℕ → ℕ) (pool pool' : ℕ) (d : List ℕ) (z : Zone) → parse_zone pool d ≡ got z [] → pool' ≤ 8192
    → All (λ k. ρ k < pool') (names_of z) → parse_zone pool' (renumbered ρ 1 d) ≡ got (renamed_zone ρ z) []
unfolding first_stage
zone-renumbered ρ pool pool' d z e few f =
    whole_again ρ Whole d (ahead_of Rest) Rest (at_rest []) (zone-reads ρ pool pool' few d z e f)
