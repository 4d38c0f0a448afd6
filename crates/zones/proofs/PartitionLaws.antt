-- Every instant is in exactly one interval of a zone, and the lookup gives that one. Assumes nothing.
use mathlib.Core.Path.{◌≡◌, refl, ap}
use mathlib.Core.List.{List, [], ◌∷◌}
use Prim.Native.Nat.{ℕ, ◌≤◌, ◌<◌}
use native.Mathlib.Omega.{arith}
use borrow.Author.Tests.{lt-ltb, le-ltb}
use Rattle.base.specs.Parsed.{behind}
use Rattle.base.specs.Moment.{Finite, end_of_time}
use Rattle.base.proofs.Tests.{by_order}
use Rattle.recurrence.specs.Tails.{Holds as TailHolds}
use Rattle.recurrence.proofs.IntervalLaws.{held, lookup-in, only_one as tail-only-one}
use Rattle.intervals.specs.declared.Interval.{Interval}
use Rattle.intervals.specs.Interval.{start_of}
use Rattle.intervals.specs.Sound.{Rising, ListOk}
use Rattle.tails.specs.declared.NamedTail.{NamedTail}
use Rattle.tails.specs.Sound.{NamedTailOk}
use Rattle.zones.specs.Content.{untailed, tailed, Body, fixed, listed, Zone}
use Rattle.zones.specs.Sound.{BodyOk, Sound}
use Rattle.zones.specs.Lookup.{holding, in_list, named, in_tail, behind_list, in_body, in_zone}
use Rattle.zones.specs.Intervals.{Holds, Listing, final, inner, later, InList, among, InTail, by-rules, InBody, all-of-time, in-list, in-tail, InZone}
use Rattle.zones.specs.declared.Found.{Found}

-- the last start is no earlier than the first
pub behind-start : (pool prev : ℕ) (is : List Interval) → Rising pool prev is → prev ≤ behind start_of prev is
unfolding behind
behind-start pool prev [] h = omega arith
behind-start pool prev (i ∷ is) h = omega (arith, h.0.rises, behind-start pool i.start is h.1)

module _ (pool end t : ℕ) where
  holding-in : (i : Interval) (is : List Interval) → Rising pool i.start is → i.start ≤ t → t < end
      → Listing end i is (holding t end i is) × Holds (holding t end i is) t
  unfolding holding
  holding-in i [] h a b = (final i, record { from = a; to = b })
  holding-in i (j ∷ is) h a b = by_order t j.start
      (λ (l : t < j.start). rw (lt-ltb t j.start l) (inner i j is, record { from = a; to = l }))
      (λ (l : j.start ≤ t). rw (le-ltb t j.start l) (
      let r = holding-in j is h.1 l b in
      (later i j is _ r.0, r.1)
      ))

  listing_start : (i : Interval) (is : List Interval) (x : Found) → Rising pool i.start is → Listing end i is x → i.start ≤ x.start
  listing_start _ _ _ h (final i) = omega arith
  listing_start _ _ _ h (inner i j js) = omega arith
  listing_start _ _ _ h (later i j js x l) = omega (arith, h.0.rises, listing_start j js x h.1 l)

  listing-one : (i : Interval) (is : List Interval) (x : Found) → Rising pool i.start is → Listing end i is x → Holds x t → x ≡ holding t end i is
  unfolding holding
  listing-one _ _ _ h (final i) k = refl
  listing-one _ _ _ h (inner i j js) k = rw (lt-ltb t j.start k.to)
  listing-one _ _ _ h (later i j js x l) k =
      rw (le-ltb t j.start (omega (arith, listing_start j js x h.1 l, k.from))) (listing-one j js x h.1 l k)

  -- a listed interval ends no later than the list
  pub listing-end : (i : Interval) (is : List Interval) (x : Found) → Rising pool i.start is → behind start_of i.start is < end → Listing end i is x
      → x.end ≤ end
  unfolding behind
  listing-end _ _ _ h b (final i) = omega arith
  listing-end _ _ _ h b (inner i j js) = omega (arith, behind-start pool j.start js h.1)
  listing-end _ _ _ h b (later i j js x l) = listing-end j js x h.1 b l

  list-in : (is : List Interval) → ListOk pool is → t < end → InList end is (in_list t end is) × Holds (in_list t end is) t
  unfolding in_list
  list-in [] h b = absurd h
  list-in (i ∷ is) h b =
      let r = holding-in i is h.2 (omega (arith, h.0)) b in
      (among i is _ r.0, r.1)

  list-one : (is : List Interval) (x : Found) → ListOk pool is → InList end is x → Holds x t → x ≡ in_list t end is
  unfolding in_list
  list-one _ _ h (among i js x l) k = listing-one i js x h.2 l k

  list-end : (is : List Interval) (x : Found) → ListOk pool is → behind start_of end_of_time is < end → InList end is x → Holds x t → t < end
  unfolding behind
  list-end _ _ h b (among i js x l) k = omega (arith, listing-end i js x h.2 b l, k.to)

-- the tail, behind the list
tail-in : (pool end t : ℕ) (n : NamedTail) → NamedTailOk pool end n → Finite t → end ≤ t → InTail n (in_tail t n) × Holds (in_tail t n) t
unfolding in_tail
tail-in pool end t n o f h =
    let r = lookup-in n.tail o.tail-ok t (rw o.starts h) f in
    (by-rules _ r.0, record { from = r.1.from; to = r.1.to })

tail-one : (pool end t : ℕ) (n : NamedTail) (x : Found) → NamedTailOk pool end n → InTail n x → Holds x t → (end ≤ t) × (x ≡ in_tail t n)
unfolding in_tail
tail-one pool end t n _ o (by-rules y i) k =
    let k' : TailHolds y t = record { from = k.from; to = k.to } in
    (rw (← o.starts) (held n.tail o.tail-ok y i t k').0, ap (named n) (tail-only-one n.tail o.tail-ok y i t k'))

module _ (pool id t : ℕ) where
  body-holds : (b : Body) → BodyOk pool b → Finite t → InBody id b (in_body t id b) × Holds (in_body t id b) t
  unfolding in_body behind_list
  body-holds (fixed offset n) h f = (all-of-time offset n, record { from = omega arith; to = omega (arith, f.high) })
  body-holds (listed is end untailed) h f =
      rw (lt-ltb t end (omega (arith, h.1, f.high))) (
      let r = list-in pool end t is h.0 (omega (arith, h.1, f.high)) in
      (in-list is end untailed _ r.0, r.1)
      )
  body-holds (listed is end (tailed n)) h f = by_order t end
      (λ (l : t < end). rw (lt-ltb t end l) (
      let r = list-in pool end t is h.0 l in
      (in-list is end (tailed n) _ r.0, r.1)
      ))
      (λ (l : end ≤ t). rw (le-ltb t end l) (
      let r = tail-in pool end t n h.1.2 f l in
      (in-tail is end n _ r.0, r.1)
      ))

  body-only : (b : Body) (x : Found) → BodyOk pool b → Finite t → InBody id b x → Holds x t → x ≡ in_body t id b
  unfolding in_body behind_list
  body-only _ _ h f (all-of-time offset n) k = refl
  body-only _ _ h f (in-list is end untailed x i) k =
      rw (lt-ltb t end (omega (arith, h.1, f.high))) (list-one pool end t is x h.0 i k)
  body-only _ _ h f (in-list is end (tailed n) x i) k =
      rw (lt-ltb t end (list-end pool end t is x h.0 h.1.0 i k)) (list-one pool end t is x h.0 i k)
  body-only _ _ h f (in-tail is end n x i) k =
      let r = tail-one pool end t n x h.1.2 i k in
      rw (le-ltb t end r.0) r.1

module _ (pool t : ℕ) (z : Zone) (ok : Sound pool z) (f : Finite t) where
  -- THE LOOKUP GIVES AN INTERVAL OF THE ZONE THAT HOLDS THE INSTANT
  pub lookup-holds : InZone z (in_zone t z) × Holds (in_zone t z) t
  lookup-holds = body-holds pool z.id t z.body ok.body_ok f

  -- AND NO OTHER INTERVAL OF THE ZONE DOES
  pub lookup-only : (x : Found) → InZone z x → Holds x t → x ≡ in_zone t z
  lookup-only x i k = body-only pool z.id t z.body x ok.body_ok f i k
