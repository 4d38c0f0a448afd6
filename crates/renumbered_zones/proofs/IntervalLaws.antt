-- The listed intervals of a zone read the same with other pool numbers, and the walk over mentions meets their names. Assumes nothing.
use Rattle.base.specs.declared.Refusal.TheVariants.{BadInterval}
use mathlib.Core.Path.{◌≡◌, refl, ap, ◌∙◌, subst}
use mathlib.Core.Bool.{true}
use mathlib.Core.List.{List, [], ◌∷◌}
use Prim.Native.Nat.{ℕ, zero, suc, ◌-◌, ◌≤◌, ◌<◌}
use native.Mathlib.Omega.{arith}
use lib.Dec.{eqb}
use lib.ListN.{length}
use borrow.Author.Tests.{ne_eqb}
use Rattle.base.specs.All.{All}
use Rattle.base.specs.Pick.{pick}
use Rattle.base.specs.Parsed.{got, bind, parse, prepend, many, behind}
use Rattle.base.proofs.AllLaws.{all_head, all_tail}
use Rattle.base.proofs.ParseLaws.{got-value, got-rest, bind-good, pick_good}
use Rattle.offsets.specs.Offset.{in_day, read_sum}
use Rattle.transitions.specs.Transition.{read_moment}
use Rattle.places.specs.Name.{parse_name}
use Rattle.intervals.specs.declared.Interval.{Interval}
use Rattle.intervals.specs.Interval.{standard_sum, judge_standard, after_wall, after_name, parse_details, rises, after_start, parse_interval, start_of}
use Rattle.mentions.specs.declared.Stage.TheVariants.{Interval as Inside}
use Rattle.mentions.specs.Walk.{behind_end, behind_start, behind_details, ahead_of}
use Rattle.mentions.proofs.WalkLaws.{left-bind, left-parse, left-start}
use Rattle.mentions.proofs.FrontLaws.{sum-front, moment-front}
use Rattle.mentions.proofs.StepLaws.{Ahead, Reads, then-reads, code_reads, name-reads, end_reads, test-reads, got-reads}
use Rattle.renumbered_zones.specs.Renamed.{renamed_interval, renamed_intervals, interval_names}

module _ (ρ : ℕ → ℕ) (pool pool' : ℕ) (few : pool' ≤ 8192) where
  -- an interval by its parts, with n more behind it
  module _ (n prev : ℕ) (s : List ℕ) (m : ℕ) (r : List ℕ) (k : ℕ) (t : List ℕ) (w : ℕ) (u : List ℕ) (v : ℕ) (q : List ℕ) where
    parts-read : parse (read_moment prev) s ≡ got m r → rises prev m ≡ true → parse_name pool r ≡ got k t → parse read_sum t ≡ got w u
        → parse read_sum u ≡ got v q → in_day (standard_sum w v) ≡ true → ρ k < pool'
        → Reads ρ (behind_start prev (suc n)) s (parse_interval pool' prev) (record { start = m; name = ρ k; wall = w; savings = v }) (k ∷ [])
        (behind_start m n) q
    unfolding parse_interval after_start parse_details after_name after_wall judge_standard behind_start behind_details ahead_of
    parts-read e₁ j₁ e₂ e₃ e₄ j₂ f =
        then-reads ρ (after_start pool' prev)
        (code_reads ρ (behind_start prev (suc n)) (parse (read_moment prev)) to-name s m r refl (moment-front s m r prev e₁) (rw at_name (omega arith)))
        (test-reads ρ (rises prev m) BadInterval j₁
        (then-reads ρ (after_name m) (name-reads ρ (to-name m) r (Inside m n) k t at_name pool pool' few e₂ f)
        (then-reads ρ (after_wall m (ρ k))
        (code_reads ρ (ahead_of (Inside m n)) (parse read_sum) to-savings t w u refl (sum-front t w u e₃)
        (left-bind (length u) (parse read_sum u) _ (left-parse read_sum (length u) u (omega arith)) (λ x y h. left-start (length u) m n y h)))
        (end_reads ρ (judge_standard m (ρ k) w) _ (λ x. rw j₂)
        (code_reads ρ (to-savings w) (parse read_sum) (λ x. behind_start m n) u v q refl (sum-front u v q e₄)
        (left-start (length q) m n q (omega arith)))))))
      where
        to-name : ℕ → Ahead
        to-name start x = pick (eqb (suc n) 0) (behind_end x) (got (Inside start (suc n - 1)) x)

        to-savings : ℕ → Ahead
        to-savings x y = bind (parse read_sum y) (λ z. behind_start m n)

        at_name : to-name m r ≡ got (Inside m n) r
        at_name = let i : suc n - 1 ≡ n = omega arith in rw (ne_eqb (suc n) 0 (λ z. omega arith), i)

  pub interval-reads : (n prev : ℕ) (s : List ℕ) (i : Interval) (q : List ℕ) → parse_interval pool prev s ≡ got i q → ρ i.name < pool'
      → Reads ρ (behind_start prev (suc n)) s (parse_interval pool' prev) (renamed_interval ρ i) (i.name ∷ []) (behind_start i.start n) q
  unfolding parse_interval after_start parse_details after_name after_wall judge_standard
  interval-reads n prev s i q e =
      let a = bind-good (parse (read_moment prev) s) (after_start pool prev) i q e in
      let m : ℕ = a.first in
      let b = pick_good (rises prev m) (parse_details pool m a.rest) BadInterval i q a.on in
      let c = bind-good (parse_name pool a.rest) (after_name m) i q b.1 in
      let k : ℕ = c.first in
      let d = bind-good (parse read_sum c.rest) (after_wall m k) i q c.on in
      let w : ℕ = d.first in
      let f = bind-good (parse read_sum d.rest) (judge_standard m k w) i q d.on in
      let v : ℕ = f.first in
      let x : Interval = record { start = m; name = k; wall = w; savings = v } in
      let g = pick_good (in_day (standard_sum w v)) (got x f.rest) BadInterval i q f.on in
      subst
      (λ (y : Interval). ρ y.name < pool'
      → Reads ρ (behind_start prev (suc n)) s (parse_interval pool' prev) (renamed_interval ρ y) (y.name ∷ []) (behind_start y.start n) q)
      (got-value g.1)
      (parts-read n prev s m a.rest k c.rest w d.rest v q a.is b.0 c.is d.is (f.is ∙ ap (got v) (got-rest g.1)) g.0)

  pub intervals-read : (n prev : ℕ) (s : List ℕ) (is : List Interval) (q : List ℕ) → many (parse_interval pool) start_of n prev s ≡ got is q
      → All (λ k. ρ k < pool') (interval_names is)
      → Reads ρ (behind_start prev n) s (many (parse_interval pool') start_of n prev) (renamed_intervals ρ is) (interval_names is)
      (behind_start (behind start_of prev is) 0) q
  unfolding many behind renamed_intervals interval_names
  intervals-read zero prev s is q e =
      let i : [] ≡ is = got-value e in
      let j : s ≡ q = got-rest e in
      rw (← i, ← j) (λ f. got-reads ρ (behind_start prev 0) s [])
  intervals-read (suc n) prev s is q e =
      let a = bind-good (parse_interval pool prev s) (λ i r. bind (many (parse_interval pool) start_of n i.start r) (prepend i)) is q e in
      let c = bind-good (many (parse_interval pool) start_of n a.first.start a.rest) (prepend a.first) is q a.on in
      let o : got (a.first ∷ c.first) c.rest ≡ got is q = c.on in
      subst
      (λ (js : List Interval). All (λ k. ρ k < pool') (interval_names js)
      → Reads ρ (behind_start prev (suc n)) s (many (parse_interval pool') start_of (suc n) prev) (renamed_intervals ρ js) (interval_names js)
      (behind_start (behind start_of prev js) 0) q)
      (got-value o)
      (λ f. then-reads ρ (λ i r. bind (many (parse_interval pool') start_of n i.start r) (prepend i))
      (interval-reads n prev s a.first a.rest a.is (all_head f))
      (end_reads ρ (prepend (renamed_interval ρ a.first)) _ (λ x. refl)
      (intervals-read n a.first.start a.rest c.first q (c.is ∙ ap (got c.first) (got-rest o)) (all_tail f))))
