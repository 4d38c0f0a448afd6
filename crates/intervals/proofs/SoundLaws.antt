-- What intervals that were read say is in its ranges. Assumes nothing.
use Rattle.base.specs.declared.Refusal.TheVariants.{BadInterval}
use mathlib.Core.Path.{◌≡◌, refl, ap, subst}
use mathlib.Core.Bool.{true}
use mathlib.Core.List.{List, [], ◌∷◌}
use mathlib.Core.Logic.{inl, inr}
use Prim.Native.Nat.{ℕ, zero, suc, ◌<◌}
use native.Mathlib.Omega.{arith}
use lib.Dec.{ltb}
use lib.ListN.{length}
use borrow.Author.Tests.{ltb-true, eqb-true, eq-eqb, ne_eqb}
use Rattle.base.specs.Pick.{both}
use Rattle.base.specs.Parsed.{got, bind, parse, prepend, many}
use Rattle.base.specs.Moment.{Finite, start_of_time, end_of_time}
use Rattle.base.proofs.Tests.{both_left, both_right}
use Rattle.base.proofs.ParseLaws.{bind-good, pick_good}
use Rattle.base.proofs.MomentLaws.{Moment}
use Rattle.offsets.specs.Offset.{in_day, read_sum}
use Rattle.transitions.specs.Transition.{read_moment}
use Rattle.places.specs.Name.{parse_name}
use Rattle.places.proofs.ValueLaws.{moment-is, name-ok, sum-high}
use Rattle.intervals.specs.declared.Interval.{Interval}
use Rattle.intervals.specs.Interval.{standard_sum, judge_standard, after_wall, after_name, parse_details, rises, after_start, parse_interval, start_of}
use Rattle.intervals.specs.Sound.{Ranged, Rising, ListOk}
use Rattle.intervals.proofs.StandardLaws.{standard-range}

pub record IntervalOk (pool prev : ℕ) (i : Interval) : Type 0 where
  pub start-ok : rises prev i.start ≡ true
  pub moment : Moment i.start
  pub ranged : Ranged pool i

details-sound : (pool m : ℕ) (s : List ℕ) (i : Interval) (q : List ℕ) → parse_details pool m s ≡ got i q → (m ≡ i.start) × Ranged pool i
unfolding parse_details after_name after_wall judge_standard
details-sound pool m s i q e =
    let a = bind-good (parse_name pool s) (after_name m) i q e in
    let b = bind-good (parse read_sum a.rest) (after_wall m a.first) i q a.on in
    let c = bind-good (parse read_sum b.rest) (judge_standard m a.first b.first) i q b.on in
    let d = pick_good (in_day (standard_sum b.first c.first)) (got (record { start = m; name = a.first; wall = b.first; savings = c.first }) c.rest) BadInterval i q c.on in
    let r = standard-range b.first c.first d.0 in
    let f : got (record { start = m; name = a.first; wall = b.first; savings = c.first }) c.rest ≡ got i q = d.1 in
    let g : record { start = m; name = a.first; wall = b.first; savings = c.first } ≡ i = cc in
    subst (λ (x : Interval). (m ≡ x.start) × Ranged pool x) g (
      refl,
      record {
        name-ok = name-ok pool _ _ _ a.is;
        wall-high = sum-high _ _ _ b.is;
        savings-high = sum-high _ _ _ c.is;
        standard-low = r.0;
        standard-high = r.1;
      },
    )

pub interval-sound : (pool prev : ℕ) (s : List ℕ) (i : Interval) (q : List ℕ) → parse_interval pool prev s ≡ got i q → IntervalOk pool prev i
unfolding parse_interval after_start
interval-sound pool prev s i q e =
    let a = bind-good (parse (read_moment prev) s) (after_start pool prev) i q e in
    let b = pick_good (rises prev a.first) (parse_details pool a.first a.rest) BadInterval i q a.on in
    let d = details-sound pool a.first a.rest i q b.1 in
    record {
      start-ok = subst (λ (x : ℕ). rises prev x ≡ true) d.0 b.0;
      moment = subst Moment d.0 (moment-is prev _ _ _ a.is);
      ranged = d.1;
    }

-- a start behind another one
later-start : (prev m : ℕ) → prev < end_of_time → rises prev m ≡ true → Moment m → (prev < m) × Finite m
later-start prev m h e k =
    let f : both (ltb prev m) (ltb m end_of_time) ≡ true = rw (ne_eqb prev end_of_time (omega arith)) at e in
    let a : prev < m = ltb-true prev m (both_left (ltb prev m) _ f) in
    let b : m < end_of_time = ltb-true m end_of_time (both_right (ltb prev m) _ f) in
    (a, go a b k)
  where
    go : prev < m → m < end_of_time → Moment m → Finite m
    go a b (inl x) = absurd (omega arith)
    go a b (inr (inl x)) = absurd (omega arith)
    go a b (inr (inr x)) = x

first-start : (prev m : ℕ) → prev ≡ end_of_time → rises prev m ≡ true → m ≡ start_of_time
first-start prev m h e = eqb-true m start_of_time (rw (eq-eqb prev end_of_time h) at e)

later-sound : (pool n prev : ℕ) (s : List ℕ) (is : List Interval) (q : List ℕ) → prev < end_of_time
    → many (parse_interval pool) start_of n prev s ≡ got is q → Rising pool prev is
unfolding many
later-sound pool zero prev s is q h e = let x : [] ≡ is = cc in subst (Rising pool prev) x tt
later-sound pool (suc n) prev s is q h e =
    let a = bind-good (parse_interval pool prev s) (λ i r. bind (many (parse_interval pool) start_of n (start_of i) r) (prepend i)) is q e in
    let i : Interval = a.first in
    let b = bind-good (many (parse_interval pool) start_of n (start_of i) a.rest) (prepend i) is q a.on in
    let o = interval-sound pool prev _ _ _ a.is in
    let p = later-start prev i.start h o.start-ok o.moment in
    let f : got (i ∷ b.first) b.rest ≡ got is q = b.on in
    let g : i ∷ b.first ≡ is = cc in
    subst (Rising pool prev) g (
      record { rises = p.0; finite = p.1; ranged = o.ranged },
      later-sound pool n i.start a.rest b.first b.rest (omega (arith, p.1.high)) b.is,
    )

-- the intervals of a zone
pub list-sound : (pool n : ℕ) (s : List ℕ) (is : List Interval) (q : List ℕ) → (n ≡ 0 → ⊥)
    → many (parse_interval pool) start_of n end_of_time s ≡ got is q → ListOk pool is
unfolding many
list-sound pool zero s is q h e = absurd (h refl)
list-sound pool (suc n) s is q h e =
    let a = bind-good (parse_interval pool end_of_time s) (λ i r. bind (many (parse_interval pool) start_of n (start_of i) r) (prepend i)) is q e in
    let i : Interval = a.first in
    let b = bind-good (many (parse_interval pool) start_of n (start_of i) a.rest) (prepend i) is q a.on in
    let o = interval-sound pool end_of_time _ _ _ a.is in
    let p = first-start end_of_time i.start refl o.start-ok in
    let f : got (i ∷ b.first) b.rest ≡ got is q = b.on in
    let g : i ∷ b.first ≡ is = cc in
    subst (ListOk pool) g (p, o.ranged, later-sound pool n i.start a.rest b.first b.rest (omega arith) b.is)

-- as many as were asked for
pub list_length : (pool n prev : ℕ) (s : List ℕ) (is : List Interval) (q : List ℕ) → many (parse_interval pool) start_of n prev s ≡ got is q → length is ≡ n
unfolding many
list_length pool zero prev s is q e = let x : [] ≡ is = cc in subst (λ (js : List Interval). length js ≡ 0) x refl
list_length pool (suc n) prev s is q e =
    let a = bind-good (parse_interval pool prev s) (λ i r. bind (many (parse_interval pool) start_of n (start_of i) r) (prepend i)) is q e in
    let i : Interval = a.first in
    let b = bind-good (many (parse_interval pool) start_of n (start_of i) a.rest) (prepend i) is q a.on in
    let f : got (i ∷ b.first) b.rest ≡ got is q = b.on in
    let g : i ∷ b.first ≡ is = cc in
    subst (λ (js : List Interval). length js ≡ suc n) g (ap suc (list_length pool n i.start a.rest b.first b.rest b.is))
