-- The lookup is what the paper says, and the only such answer. Assumes nothing.
use mathlib.Core.Path.{◌≡◌, refl}
use mathlib.Core.Bool.{Bool, true, false}
use Prim.Native.Nat.{ℕ, ◌≤◌, ◌<◌, min, max}
use native.Mathlib.Omega.{arith}
use lib.Dec.{ltb}
use borrow.Author.Tests.{lt-ltb, le-ltb}
use Rattle.base.specs.Pick.{pick}
use Rattle.base.specs.Moment.{Finite, end_of_time}
use Rattle.recurrence.specs.declared.Tail.{Tail}
use Rattle.recurrence.specs.declared.Interval.{Interval}
use Rattle.recurrence.specs.declared.Occurrences.{Occurrences}
use Rattle.occurrences.specs.Rules.{occurrence, subtracted}
use Rattle.recurrence.specs.Search.{next_after, last_at, around}
use Rattle.recurrence.specs.Tails.{TailOk, wall_of, standard_in, daylight_in, IsLookup, lookup}
use Rattle.rules.proofs.FieldLaws.{sum-range}
use Rattle.occurrences.proofs.RuleLaws.{subtracted-le}
use Rattle.recurrence.proofs.SearchLaws.{Yearly, occurrence-yearly, next-after, last-at, next_one, last_one}

module _ (tail : Tail) (ok : TailOk tail) where
  pub standard-yearly : Yearly (standard_in tail)
  unfolding standard_in
  standard-yearly =
      occurrence-yearly tail.standard _ ok.standard-ok
      (subtracted-le _ _ _ (omega (arith, sum-range tail.offset tail.savings ok.sum-ok)) (omega arith))

  pub daylight-yearly : Yearly (daylight_in tail)
  unfolding daylight_in
  daylight-yearly = occurrence-yearly tail.daylight _ ok.daylight-ok (subtracted-le _ _ _ (omega arith) (omega arith))

  pub lookup-is : (t : ℕ) → Finite t → IsLookup tail t (lookup tail t)
  unfolding lookup
  lookup-is t a =
      record {
        in-force = record {
          next-standard = next_after (standard_in tail) t;
          next-daylight = next_after (daylight_in tail) t;
          is-next-standard = next-after (standard_in tail) standard-yearly t a;
          is-next-daylight = next-after (daylight_in tail) daylight-yearly t a;
          which = refl;
          wall-is = refl;
          savings-is = refl;
          end_is = refl;
        };
        last-standard = last_at (standard_in tail) t;
        last-daylight = last_at (daylight_in tail) t;
        is-last-standard = last-at (standard_in tail) standard-yearly t a;
        is-last-daylight = last-at (daylight_in tail) daylight-yearly t a;
        start_is = refl;
      }

-- the properties leave one answer
made : Bool → ℕ → ℕ → ℕ → ℕ → Interval
made d w s b e = record { daylight = d; wall = w; savings = s; start = b; end = e }

same-interval : (x y : Interval) → x.daylight ≡ y.daylight → x.wall ≡ y.wall → x.savings ≡ y.savings → x.start ≡ y.start → x.end ≡ y.end → x ≡ y
unfolding made
same-interval x y d w s b e =
    let p : made x.daylight x.wall x.savings x.start x.end ≡ made y.daylight y.wall y.savings y.start y.end = cc in p

pub lookup-one : (tail : Tail) (t : ℕ) (x y : Interval) → IsLookup tail t x → IsLookup tail t y → x ≡ y
lookup-one tail t x y a b =
    let p : a.in-force.next-standard ≡ b.in-force.next-standard = next_one (standard_in tail) t _ _ a.in-force.is-next-standard b.in-force.is-next-standard in
    let q : a.in-force.next-daylight ≡ b.in-force.next-daylight = next_one (daylight_in tail) t _ _ a.in-force.is-next-daylight b.in-force.is-next-daylight in
    let u : a.last-standard ≡ b.last-standard = last_one (standard_in tail) t _ _ a.is-last-standard b.is-last-standard in
    let v : a.last-daylight ≡ b.last-daylight = last_one (daylight_in tail) t _ _ a.is-last-daylight b.is-last-daylight in
    let d : x.daylight ≡ y.daylight = cc in
    same-interval x y d (cc) (cc) (cc) (cc)

-- what the code has found is the answer: the occurrences s of the standard rule and d of the daylight rule, with the offsets o and p
module _ (tail : Tail) (t : ℕ) (s d : Occurrences) (o p : ℕ)
    (o_is : o ≡ subtracted tail.standard.mode (wall_of tail) tail.offset)
    (p-is : p ≡ subtracted tail.daylight.mode tail.offset tail.offset)
    (s-is : s ≡ around (occurrence tail.standard o) t)
    (d-is : d ≡ around (occurrence tail.daylight p) t)
  where
    abbrev answer : Bool → Interval
    answer b = made b (pick b (wall_of tail) tail.offset) (pick b tail.savings 86400000) (max tail.start (max s.last d.last)) (min (min s.next d.next) end_of_time)

    answer-is : answer (ltb s.next d.next) ≡ lookup tail t
    unfolding lookup standard_in daylight_in made
    answer-is = rw (s-is, d-is, o_is, p-is)

    module _ (l b e f : ℕ) (l-is : l ≡ max s.last d.last) (b-is : b ≡ max tail.start l) (e-is : e ≡ min s.next d.next) (f-is : f ≡ min e end_of_time) where
      pub daylight-answer : s.next < d.next → ◌≡◌ {A = Interval} (record { daylight = true; wall = wall_of tail; savings = tail.savings; start = b; end = f }) (lookup tail t)
      unfolding made
      daylight-answer h = rw (b-is, l-is, f-is, e-is) (rw (lt-ltb s.next d.next h) at answer-is)

      pub standard-answer : d.next ≤ s.next → ◌≡◌ {A = Interval} (record { daylight = false; wall = tail.offset; savings = 86400000; start = b; end = f }) (lookup tail t)
      unfolding made
      standard-answer h = rw (b-is, l-is, f-is, e-is) (rw (le-ltb s.next d.next h) at answer-is)
