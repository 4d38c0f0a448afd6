-- Where the intervals of a zone end, and which one is behind. Assumes nothing.
use mathlib.Core.Path.{◌≡◌, sym, ap, ◌∙◌}
use mathlib.Core.List.{List}
use Prim.Native.Nat.{ℕ, ◌-◌, ◌≤◌, ◌<◌}
use native.Mathlib.Omega.{arith}
use Rattle.base.specs.Moment.{Finite, end_of_time}
use Rattle.base.proofs.Tests.{by_order}
use Rattle.intervals.specs.declared.Interval.{Interval}
use Rattle.intervals.specs.Sound.{Rising, ListOk}
use Rattle.tails.specs.declared.NamedTail.{NamedTail}
use Rattle.zones.specs.Content.{Body, untailed, tailed, Zone}
use Rattle.zones.specs.Sound.{BodyOk, Sound}
use Rattle.zones.specs.Lookup.{in_zone}
use Rattle.zones.specs.Intervals.{Holds, Listing, final, inner, later, InList, among, InTail, by-rules, InBody, all-of-time, in-list, in-tail, InZone}
use Rattle.zones.specs.declared.Found.{Found}
use Rattle.zones.proofs.PartitionLaws.{lookup-holds, lookup-only}

listing-high : (pool end : ℕ) (i : Interval) (is : List Interval) (x : Found) → end ≤ end_of_time → Rising pool i.start is → Listing end i is x
    → x.end ≤ end_of_time
listing-high pool end _ _ _ l h (final i) = l
listing-high pool end _ _ _ l h (inner i j js) = omega (arith, h.0.finite.high)
listing-high pool end _ _ _ l h (later i j js x k) = listing-high pool end j js x l h.1 k

list-high : (pool end : ℕ) (is : List Interval) (x : Found) → end ≤ end_of_time → ListOk pool is → InList end is x → x.end ≤ end_of_time
list-high pool end _ _ l h (among i js x k) = listing-high pool end i js x l h.2 k

tail-high : (n : NamedTail) (x : Found) → InTail n x → x.end ≤ end_of_time
tail-high n _ (by-rules y v) = omega (arith, v.in-force.end_is)

body-end : (pool id : ℕ) (b : Body) (x : Found) → BodyOk pool b → InBody id b x → x.end ≤ end_of_time
body-end pool id _ _ h (all-of-time offset n) = omega arith
body-end pool id _ _ h (in-list is end untailed x i) = list-high pool end is x (omega (arith, h.1)) h.0 i
body-end pool id _ _ h (in-list is end (tailed n) x i) = list-high pool end is x (omega (arith, h.1.1.high)) h.0 i
body-end pool id _ _ h (in-tail is end n x i) = tail-high n x i

-- no interval ends after end of time
pub zone-end : (pool : ℕ) (z : Zone) (x : Found) → Sound pool z → InZone z x → x.end ≤ end_of_time
zone-end pool z x h i = body-end pool z.id z.body x h.body_ok i

module _ (pool : ℕ) (z : Zone) (ok : Sound pool z) where
  module _ (t : ℕ) (f : Finite t) where
    pub holds : Holds (in_zone t z) t
    holds = (lookup-holds pool t z ok f).1

    -- at every instant of an interval the lookup gives it
    pub same_at : (s : ℕ) → Finite s → Holds (in_zone t z) s → in_zone s z ≡ in_zone t z
    same_at s g h = sym (lookup-only pool s z ok g (in_zone t z) (lookup-holds pool t z ok f).0 h)

    -- an end that isn't end of time is an instant
    pub end-finite : (in_zone t z).end < end_of_time → Finite (in_zone t z).end
    end-finite h = record { low = omega (arith, f.low, holds.to); high = omega arith }

  -- the interval behind one starts where that one ends: else the instant before the end would be in both
  pub next-start : (t : ℕ) → Finite t → (in_zone t z).end < end_of_time → (in_zone (in_zone t z).end z).start ≡ (in_zone t z).end
  next-start t f h = by_order (in_zone e z).start e (λ (l : (in_zone e z).start < e). absurd (twice l)) (λ (l : e ≤ (in_zone e z).start). omega (arith, y.from))
    where
      e : ℕ
      e = (in_zone t z).end

      g : Finite e
      g = end-finite t f h

      x : Holds (in_zone t z) t
      x = holds t f

      y : Holds (in_zone e z) e
      y = holds e g

      twice : (in_zone e z).start < e → ⊥
      twice l =
          let k : Finite (e - 1) = record { low = omega (arith, f.low, x.to); high = omega (arith, g.high) } in
          let p : in_zone (e - 1) z ≡ in_zone t z = same_at t f (e - 1) k (record { from = omega (arith, x.from, x.to); to = omega (arith, x.to) }) in
          let q : in_zone (e - 1) z ≡ in_zone e z = same_at e g (e - 1) k (record { from = omega arith; to = omega (arith, y.to) }) in
          omega (arith, y.to, ap (λ (u : Found). u.end) (sym p ∙ q))
