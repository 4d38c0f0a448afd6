-- Of a zone that is held: asking again at each interval's end meets every instant once, and a screen so renewed shows what is answered. It
-- is the zone's partition (zones/proofs/PartitionLaws.antt, EndLaws.antt), step by step. Assumes nothing.
use Rattle.std.specs.Prelude.{Ok, Result}
use Rattle.base.specs.Coded.{Fault}
use mathlib.Core.Path.{◌≡◌, refl, sym, ap, ◌∙◌, subst}
use mathlib.Core.List.{List, [], ◌∷◌, map}
use Prim.Native.Nat.{ℕ, zero, suc, ◌+◌, ◌≤◌, ◌<◌}
use native.Mathlib.Omega.{arith}
use lib.IntN.{ℤ}
use lib.Dec.{ltb}
use lib.Signed.{lt_z, ◌≤ℤ◌}
use borrow.Author.Tests.{ltb-true, ltb-false}
use Rattle.base.specs.All.{All, all_none, all-also}
use Rattle.base.specs.Moment.{Finite, first_instant, end_of_time}
use Rattle.base.proofs.Tests.{by_order, pick-holds}
use Rattle.signed.specs.Instant.{InRange, instant_of, ticks_of}
use Rattle.signed.proofs.IntegerLaws.{instant-ticks, ticks-instant, instant-finite}
use Rattle.signed.proofs.TickLaws.{ticks-lt}
use Rattle.zones.specs.Content.{Zone}
use Rattle.zones.specs.Sound.{Sound}
use Rattle.zones.specs.Lookup.{in_zone}
use Rattle.zones.specs.Intervals.{Holds}
use Rattle.zones.specs.declared.Found.{Found as Interval}
use Rattle.zones.proofs.PartitionLaws.{lookup-holds}
use Rattle.zones.proofs.EndLaws.{zone-end, holds, same_at, end-finite, next-start}
use Rattle.answers.specs.Answers.{Pool, answered}
use Rattle.answers.specs.declared.Found.{Found}
use Rattle.wall_times.specs.WallTime.{Ascending}
use Rattle.renewals.specs.Renewal.{end_of, Renewed, last, again, Meets, Once, here, there, Joined, alone, before, SameBetween, NoGap, shown, Screen}
use Rattle.renewals.proofs.OrderLaws.{to_le, of_le, to-lt, of_lt}

pub in-ticks : (t : ℕ) → Finite t → InRange (ticks_of t)
in-ticks t g e = omega (arith, g.low, instant-ticks t g)

-- a question that at every instant in range looks it up in the zone w, whose names are in the pool p
module _ (n : ℕ) (w : Zone) (ok : Sound n w) (p : Pool) (q : ℤ → Result Found Fault) (asks : (z : ℤ) → InRange z → q z ≡ Ok (answered p (in_zone (instant_of z) w))) where
  abbrev at : ℕ → Interval
  at t = in_zone t w

  abbrev given : ℕ → Found
  given t = answered p (at t)

  asks_at : (t : ℕ) → Finite t → q (ticks_of t) ≡ Ok (given t)
  asks_at t g = asks (ticks_of t) (in-ticks t g) ∙ ap (λ (u : ℕ). Ok (given u)) (instant-ticks t g)

  module _ (z : ℤ) (r : InRange z) where
    finite : Finite (instant_of z)
    finite = instant-finite (instant_of z) z refl r

    back : ticks_of (instant_of z) ≡ z
    back = ticks-instant z finite

    meets : (t : ℕ) → Holds (at t) (instant_of z) → Meets (given t) z
    meets t h = subst (Meets (given t)) back (record {
      from = to_le (at t).start (instant_of z) finite h.from;
      to = to-lt (at t).end (instant_of z) finite h.to;
    })

    met : (t : ℕ) → Meets (given t) z → Holds (at t) (instant_of z)
    met t m =
        let k : Meets (given t) (ticks_of (instant_of z)) = subst (Meets (given t)) (sym back) m in
        record { from = of_le (at t).start (instant_of z) finite k.from; to = of_lt (at t).end (instant_of z) finite k.to }

    -- whatever interval holds the instant, its answer is given there
    holds-answer : (t : ℕ) → Finite t → Holds (at t) (instant_of z) → q z ≡ Ok (given t)
    holds-answer t g h = asks z r ∙ ap (λ (x : Interval). Ok (answered p x)) (same_at n w ok t g (instant_of z) finite h)

  -- the answers from the instant t on
  record From (t : ℕ) : Type 0 where
    rest : List Found
    renewed : Renewed q (ticks_of t) (given t ∷ rest)
    rising : Ascending (map end_of (given t ∷ rest))
    joined : Joined (given t ∷ rest)
    early : (z : ℤ) → InRange z → instant_of z < (at t).start → All (λ x. Meets x z → ⊥) (given t ∷ rest)
    met-once : (z : ℤ) → InRange z → (at t).start ≤ instant_of z → Once (λ x. Meets x z) (given t ∷ rest)
    same : All (SameBetween q) (given t ∷ rest)
    shows : (z : ℤ) → InRange z → (at t).start ≤ instant_of z → q z ≡ Ok (shown (given t) rest z)

  same-between : (t : ℕ) → Finite t → SameBetween q (given t)
  same-between t g z r m = holds-answer z r t g (met z r t m)

  too-early : (t : ℕ) (z : ℤ) → InRange z → instant_of z < (at t).start → Meets (given t) z → ⊥
  too-early t z r l m = omega (arith, (met z r t m).from)

  until : (t : ℕ) (z : ℤ) → InRange z → lt_z z (ticks_of (at t).end) ≡ ltb (instant_of z) (at t).end
  until t z r = subst (λ (u : ℤ). lt_z u (ticks_of (at t).end) ≡ ltb (instant_of z) (at t).end) (back z r) (ticks-lt (at t).end (instant_of z) (finite z r))

  -- the last one
  stop : (t : ℕ) → Finite t → end_of_time ≤ (at t).end → From t
  unfolding shown
  stop t g l =
      let e : (at t).end ≡ end_of_time = omega (arith, zone-end n w (at t) ok (lookup-holds n t w ok g).0) in
      let k : (z : ℤ) → InRange z → (at t).start ≤ instant_of z → Holds (at t) (instant_of z) =
      λ z r h. record { from = h; to = omega (arith, (finite z r).high) } in
      record {
        rest = [];
        renewed = last (asks_at t g) (ap ticks_of e);
        rising = tt;
        joined = alone;
        early = λ z r h. all-also (too-early t z r h) all_none;
        met-once = λ z r h. here (meets z r t (k z r h)) all_none;
        same = all-also (same-between t g) all_none;
        shows = λ z r h. holds-answer z r t g (k z r h);
      }

  -- one that another follows
  go_on : (t : ℕ) → Finite t → (at t).end < end_of_time → From (at t).end → From t
  unfolding shown
  go_on t g l v =
      let j : Finite (at t).end = end-finite n w ok t g l in
      let s : (at (at t).end).start ≡ (at t).end = next-start n w ok t g l in
      let x : Holds (at t) t = holds n w ok t g in
      record {
        rest = given (at t).end ∷ v.rest;
        renewed = again (asks_at t g) (in-ticks (at t).end j) v.renewed;
        rising = (to-lt (at (at t).end).end (at t).end j (holds n w ok (at t).end j).to, v.rising);
        joined = before {x = given t} {y = given (at t).end} (ap ticks_of s) v.joined;
        early = λ z r h. all-also (too-early t z r h) (v.early z r (omega (arith, s, x.from, x.to)));
        met-once = λ z r h. by_order (instant_of z) (at t).end
            (λ (b : instant_of z < (at t).end). here (meets z r t (record { from = h; to = b })) (v.early z r (omega (arith, s))))
            (λ (b : (at t).end ≤ instant_of z). there (λ m. omega (arith, (met z r t m).to)) (v.met-once z r (omega (arith, s))));
        same = all-also (same-between t g) v.same;
        shows = λ z r h. pick-holds (λ (x : Found). q z ≡ Ok x) (lt_z z (ticks_of (at t).end))
            (λ e. holds-answer z r t g (record { from = h; to = ltb-true (instant_of z) (at t).end (sym (until t z r) ∙ e) }))
            (λ e. v.shows z r (omega (arith, s, ltb-false (instant_of z) (at t).end (sym (until t z r) ∙ e))));
      }

  -- each turn comes nearer to end of time, so there are finitely many
  build : (k t : ℕ) → Finite t → end_of_time ≤ t + k → From t
  build zero t g l = absurd (omega (arith, g.high))
  build (suc k) t g l =
      by_order (at t).end end_of_time
      (λ (h : (at t).end < end_of_time). go_on t g h (build k (at t).end (end-finite n w ok t g h) (omega (arith, (holds n w ok t g).to))))
      (λ (h : end_of_time ≤ (at t).end). stop t g h)

  -- NO GAP, of any number of turns that is enough
  pub held-no-gap : (k : ℕ) → end_of_time ≤ first_instant + k → (xs : List Found) × NoGap q xs
  held-no-gap k l =
      let first : Finite first_instant = record { low = omega arith; high = omega arith } in
      let v : From first_instant = build k first_instant first l in (
        given first_instant ∷ v.rest,
        record {
          renewed = v.renewed;
          met-once = λ z r. v.met-once z r (omega (arith, (finite z r).low, (holds n w ok first_instant first).from));
          rising = v.rising;
          joined = v.joined;
          same = v.same;
        },
      )

  -- A SCREEN SHOWS WHAT IS ANSWERED, from any instant on
  pub held-screen : (k : ℕ) → end_of_time ≤ k → (z : ℤ) → InRange z → Screen q z
  held-screen k l z r =
      let t : ℕ = instant_of z in
      let v : From (instant_of z) = build k (instant_of z) (finite z r) (omega arith) in
      record {
        first = given (instant_of z);
        later = v.rest;
        renewed = subst (λ (u : ℤ). Renewed q u (given (instant_of z) ∷ v.rest)) (back z r) v.renewed;
        shows = λ y s h. v.shows y s (from_then z r y s h);
      }
    where
      from_then : (z : ℤ) (r : InRange z) (y : ℤ) (s : InRange y) → z ≤ℤ y → (at (instant_of z)).start ≤ instant_of y
      from_then z r y s h =
          let k : instant_of z ≤ instant_of y =
          of_le (instant_of z) (instant_of y) (finite y s) (subst (λ (u : ℤ). u ≤ℤ ticks_of (instant_of y)) (sym (back z r)) (subst (λ (u : ℤ). z ≤ℤ u) (sym (back y s)) h)) in
          omega (arith, (holds n w ok (instant_of z) (finite z r)).from)
