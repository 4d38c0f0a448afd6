-- The tail's intervals: each instant from the tail's start on is in exactly one, which is what the lookup gives; one ends where the
-- next starts. This holds whether or not the rules alternate or fall together. Assumes nothing.
use mathlib.Core.Path.{◌≡◌, sym, ap, ◌∙◌}
use Prim.Native.Nat.{ℕ, ◌≤◌, ◌<◌, max}
use native.Mathlib.Omega.{arith}
use Rattle.base.specs.Moment.{Finite, end_of_time}
use Rattle.base.proofs.Tests.{by_order}
use Rattle.recurrence.specs.declared.Tail.{Tail}
use Rattle.recurrence.specs.declared.Interval.{Interval}
use Rattle.recurrence.specs.Search.{IsNext}
use Rattle.recurrence.specs.Tails.{TailOk, standard_in, daylight_in, InForce, IsLookup, lookup, Holds, Starts, with-tail, with-standard, with-daylight, IsInterval}
use Rattle.recurrence.proofs.SearchLaws.{next-later, next-earlier, last-before}
use Rattle.recurrence.proofs.LookupLaws.{lookup-is, lookup-one}

-- an end is at most the next occurrence of each rule, and after its instant
end-range : {tail : Tail} {t : ℕ} {x : Interval} → InForce tail t x → Finite t → (t < x.end) × (x.end ≤ end_of_time)
end-range i a = omega (arith, i.is-next-standard.after, i.is-next-daylight.after, i.end_is)

-- what is in force at an instant is in force at each other of the interval
in-force-at : {tail : Tail} {s t : ℕ} {x : Interval} (i : InForce tail s x) → IsNext (standard_in tail) t i.next-standard → IsNext (daylight_in tail) t i.next-daylight → InForce tail t x
in-force-at i p q =
    record {
      next-standard = i.next-standard;
      next-daylight = i.next-daylight;
      is-next-standard = p;
      is-next-daylight = q;
      which = i.which;
      wall-is = i.wall-is;
      savings-is = i.savings-is;
      end_is = i.end_is;
    }

module _ (tail : Tail) (ok : TailOk tail) where
  module _ (t : ℕ) (l : tail.start ≤ t) (a : Finite t) (x : Interval) where
    lookup-starts : IsLookup tail t x → Starts tail x.start
    lookup-starts i =
        by_order tail.start x.start
        (λ h. by_order i.last-standard i.last-daylight
        (λ k. with-daylight h (record { year = i.is-last-daylight.year; at = omega (arith, i.start_is, i.is-last-daylight.occurs) }))
        (λ k. with-standard h (record { year = i.is-last-standard.year; at = omega (arith, i.start_is, i.is-last-standard.occurs) })))
        (λ h. with-tail (omega (arith, i.start_is)))

    -- the answer at an instant is an interval that holds it
    lookup-holds : IsLookup tail t x → Holds x t
    lookup-holds i =
        record { from = omega (arith, i.start_is, i.is-last-standard.before, i.is-last-daylight.before); to = (end-range i.in-force a).0 }

    lookup-interval : IsLookup tail t x → IsInterval tail x
    lookup-interval i =
        let h : x.start ≤ t = (lookup-holds i).from in
        record {
          starts = lookup-starts i;
          finite = record { low = omega (arith, i.start_is); high = omega arith };
          in-force = in-force-at i.in-force
              (next-earlier (standard_in tail) x.start t _ _ i.in-force.is-next-standard i.is-last-standard (omega (arith, i.start_is)) h)
              (next-earlier (daylight_in tail) x.start t _ _ i.in-force.is-next-daylight i.is-last-daylight (omega (arith, i.start_is)) h);
        }

    -- and an interval that holds an instant is the answer at it
    interval-start : IsInterval tail x → Holds x t → (i : IsLookup tail t (lookup tail t)) → x.start ≡ max tail.start (max i.last-standard i.last-daylight)
    interval-start v h i = go v.starts
      where
        n : InForce tail x.start x
        n = v.in-force

        standard : i.last-standard ≤ x.start
        standard =
            last-before (standard_in tail) x.start t n.next-standard _ n.is-next-standard i.is-last-standard (omega (arith, h.to, n.end_is))

        daylight : i.last-daylight ≤ x.start
        daylight =
            last-before (daylight_in tail) x.start t n.next-daylight _ n.is-next-daylight i.is-last-daylight (omega (arith, h.to, n.end_is))

        go : Starts tail x.start → x.start ≡ max tail.start (max i.last-standard i.last-daylight)
        go (with-tail e) = omega (arith, standard, daylight)
        go (with-standard b o) = omega (arith, standard, daylight, o.at, i.is-last-standard.greatest 0 o.year (omega (arith, h.from, o.at)))
        go (with-daylight b o) = omega (arith, standard, daylight, o.at, i.is-last-daylight.greatest 0 o.year (omega (arith, h.from, o.at)))

    interval-lookup : IsInterval tail x → Holds x t → IsLookup tail t x
    interval-lookup v h =
        let i : IsLookup tail t (lookup tail t) = lookup-is tail ok t a in
        record {
          in-force = in-force-at v.in-force
              (next-later (standard_in tail) x.start t _ v.in-force.is-next-standard h.from (omega (arith, h.to, v.in-force.end_is)))
              (next-later (daylight_in tail) x.start t _ v.in-force.is-next-daylight h.from (omega (arith, h.to, v.in-force.end_is)));
          last-standard = i.last-standard;
          last-daylight = i.last-daylight;
          is-last-standard = i.is-last-standard;
          is-last-daylight = i.is-last-daylight;
          start_is = interval-start v h i;
        }

  starts-from : (n : ℕ) → Starts tail n → tail.start ≤ n
  starts-from n (with-tail e) = omega arith
  starts-from n (with-standard l o) = omega arith
  starts-from n (with-daylight l o) = omega arith

  -- an interval holds finite instants only, from the tail's start on
  pub held : (x : Interval) → IsInterval tail x → (t : ℕ) → Holds x t → (tail.start ≤ t) × Finite t
  held x v t h =
      let l : tail.start ≤ x.start = starts-from x.start v.starts in
      (omega (arith, h.from), record { low = omega (arith, h.from, v.finite.low); high = omega (arith, h.to, end-range v.in-force v.finite) })

  -- the lookup at an instant is an interval, and holds the instant
  pub lookup-in : (t : ℕ) → tail.start ≤ t → Finite t → IsInterval tail (lookup tail t) × Holds (lookup tail t) t
  lookup-in t l a =
      let i : IsLookup tail t (lookup tail t) = lookup-is tail ok t a in
      (lookup-interval t l a (lookup tail t) i, lookup-holds t l a (lookup tail t) i)

  -- and the only one that does
  pub only_one : (x : Interval) → IsInterval tail x → (t : ℕ) → Holds x t → x ≡ lookup tail t
  only_one x v t h =
      let b : (tail.start ≤ t) × Finite t = held x v t h in
      lookup-one tail t x (lookup tail t) (interval-lookup t b.0 b.1 x v h) (lookup-is tail ok t b.1)

  -- every instant of an interval gets the same interval
  pub same-lookup : (t s : ℕ) → tail.start ≤ t → Finite t → Holds (lookup tail t) s → lookup tail s ≡ lookup tail t
  same-lookup t s l a h = sym (only_one (lookup tail t) (lookup-in t l a).0 s h)

  -- the next interval starts where this one ends
  pub next-start : (t : ℕ) → tail.start ≤ t → Finite t → (lookup tail t).end < end_of_time → (lookup tail (lookup tail t).end).start ≡ (lookup tail t).end
  next-start t l a h = by_order n.next-standard n.next-daylight standard daylight
    where
      n : InForce tail t (lookup tail t)
      n = (lookup-is tail ok t a).in-force

      i : IsLookup tail (lookup tail t).end (lookup tail (lookup tail t).end)
      i = lookup-is tail ok (lookup tail t).end (record { low = omega (arith, end-range n a); high = omega arith })

      standard : n.next-standard < n.next-daylight → (lookup tail (lookup tail t).end).start ≡ (lookup tail t).end
      standard k =
          omega (arith, end-range n a, n.end_is, i.start_is, i.is-last-standard.before, i.is-last-daylight.before, n.is-next-standard.occurs, i.is-last-standard.greatest 0 n.is-next-standard.year (omega (arith, n.end_is, n.is-next-standard.occurs)))

      daylight : n.next-daylight ≤ n.next-standard → (lookup tail (lookup tail t).end).start ≡ (lookup tail t).end
      daylight k =
          omega (arith, end-range n a, n.end_is, i.start_is, i.is-last-standard.before, i.is-last-daylight.before, n.is-next-daylight.occurs, i.is-last-daylight.greatest 0 n.is-next-daylight.year (omega (arith, n.end_is, n.is-next-daylight.occurs)))

  -- and ends later
  pub ends-rise : (t : ℕ) → tail.start ≤ t → Finite t → (lookup tail t).end < end_of_time → (lookup tail t).end < (lookup tail (lookup tail t).end).end
  ends-rise t l a h =
      let b : t < (lookup tail t).end = (lookup-in t l a).1.to in
      (lookup-in (lookup tail t).end (omega arith) (record { low = omega arith; high = omega arith })).1.to

  -- an interval that starts later starts at or after the end
  pub in_order : (x y : Interval) → IsInterval tail x → IsInterval tail y → x.start < y.start → x.end ≤ y.start
  in_order x y v w l = by_order y.start x.end (λ h. absurd (twice h)) (λ h. h)
    where
      twice : y.start < x.end → ⊥
      twice h =
          let p : x ≡ lookup tail y.start = only_one x v y.start (record { from = omega arith; to = h }) in
          let q : y ≡ lookup tail y.start = only_one y w y.start (record { from = omega arith; to = (end-range w.in-force w.finite).0 }) in
          omega (arith, ap (λ (z : Interval). z.start) (p ∙ sym q))
