-- On a zone's own table of starts, the entry that halving leaves is the start of the interval that the question gives. Assumes nothing.
use Rattle.base.specs.Coded.{Fault}
use Rattle.std.specs.Prelude.{Ok, Result}
use mathlib.Core.Path.{◌≡◌, refl, sym, ap, ◌∙◌, subst}
use mathlib.Core.Bool.{Bool, true, false}
use mathlib.Core.List.{List, [], ◌∷◌}
use Prim.Native.Nat.{ℕ, zero, suc, ◌+◌, ◌≤◌, ◌<◌}
use native.Mathlib.Omega.{arith}
use lib.Dec.{T, ltb}
use lib.IntN.{ℤ}
use lib.Signed.{◌≤ℤ◌, ◌<ℤ◌, ≤ℤ_refl, clash_ℤ}
use lib.ListN.{length}
use borrow.Author.Tests.{lt-ltb, le-leb, ltb-true, ltb-false}
use Rattle.base.specs.Pick.{pick}
use Rattle.base.specs.Moment.{Finite, start_of_time}
use Rattle.base.proofs.PairLaws.{ok_parts}
use Rattle.signed.specs.Instant.{instant_of, ticks_of, InRange}
use Rattle.signed.proofs.IntegerLaws.{ticks-instant, instant-finite}
use Rattle.signed.proofs.TickLaws.{ticks-le, ticks-lt}
use Rattle.intervals.specs.declared.Interval.{Interval}
use Rattle.intervals.specs.Sound.{Rising, ListOk}
use Rattle.pool.specs.Pool.{strings_of}
use Rattle.zones.specs.Content.{Body, fixed, listed, Zone}
use Rattle.zones.specs.Editions.{under}
use Rattle.zones.specs.Sound.{BodyOk}
use Rattle.zones.specs.Lookup.{until, holding, in_list, in_body}
use Rattle.zones.specs.declared.Edition.TheVariants.{Two}
use Rattle.answers.specs.declared.Mark.TheVariants.{All}
use Rattle.answers.specs.declared.Found.{Found}
use Rattle.locate.specs.Asked.{of_held}
use Rattle.questions.specs.Question.{answer_at, ask}
use Rattle.questions.proofs.HeldLaws.{Holding, ask-holding, holding-asks, holding-sound}
use Rattle.halving.specs.Halving.{find_start}
use Rattle.halving.specs.Facts.{entry_of, Ascending, LastNotAfter, Finds}
use Rattle.halving.proofs.HalvingLaws.{halving-finds}
use Rattle.zone_starts.specs.Starts.{list_starts, starts_of}
use Rattle.starts.specs.Facts.{Listed}

told : {b : Bool} → b ≡ true → T b
told {b} e = rw e tt

-- a moment no later than those before a list is no later than its starts
before-all : (pool prev m : ℕ) (is : List Interval) → Rising pool prev is → m ≤ prev → (q : ℕ) → q < length (list_starts is) → ticks_of m ≤ℤ entry_of (list_starts is) q
unfolding list_starts
before-all pool prev m [] r h q l = absurd (omega arith)
before-all pool prev m (i ∷ is) r h zero l =
    record { le = told (ticks-le m i.start r.0.finite ∙ le-leb m i.start (omega (arith, r.0.rises))) }
before-all pool prev m (i ∷ is) r h (suc q) l = before-all pool i.start m is r.1 (omega (arith, r.0.rises)) q (omega arith)

rising-ascends : (pool : ℕ) (i : Interval) (is : List Interval) → Rising pool i.start is → Ascending (list_starts (i ∷ is))
unfolding list_starts
rising-ascends pool i is r zero zero h l = ≤ℤ_refl (ticks_of i.start)
rising-ascends pool i is r zero (suc q) h l = before-all pool i.start i.start is r (omega arith) q (omega arith)
rising-ascends pool i is r (suc p) zero h l = absurd (omega arith)
rising-ascends pool i [] r (suc p) (suc q) h l = absurd (omega arith)
rising-ascends pool i (j ∷ is) r (suc p) (suc q) h l = rising-ascends pool j is r.1 p q (omega arith) (omega arith)

module _ (t : ℕ) (f : Finite t) where
  -- the starts of a list that begins after t are after t
  after_list : (pool : ℕ) (j : Interval) (is : List Interval) → t < j.start → Rising pool j.start is
      → (q : ℕ) → q < length (list_starts (j ∷ is)) → ticks_of t <ℤ entry_of (list_starts (j ∷ is)) q
  unfolding list_starts
  after_list pool j is h r zero l = record { lt = told (ticks-lt j.start t f ∙ lt-ltb t j.start h) }
  after_list pool j [] h r (suc q) l = absurd (omega arith)
  after_list pool j (k ∷ ks) h r (suc q) l = after_list pool k ks (omega (arith, r.0.rises)) r.1 q (omega arith)

  -- the last entry that isn't after t is the start of the interval that holds t
  last-holds : (pool end : ℕ) (i : Interval) (is : List Interval) → Rising pool i.start is → (p : ℕ)
      → LastNotAfter (list_starts (i ∷ is)) (ticks_of t) p → entry_of (list_starts (i ∷ is)) p ≡ ticks_of (holding t end i is).start
  unfolding list_starts holding
  last-holds pool end i [] r zero w = refl
  last-holds pool end i [] r (suc p) w = absurd (omega (arith, w.inside))
  last-holds pool end i (j ∷ is) r p w = go (ltb t j.start) refl p w (λ q v. last-holds pool end j is r.1 q v)
    where
      go : (b : Bool) → ltb t j.start ≡ b → (p : ℕ) → LastNotAfter (list_starts (i ∷ j ∷ is)) (ticks_of t) p
          → ((q : ℕ) → LastNotAfter (list_starts (j ∷ is)) (ticks_of t) q → entry_of (list_starts (j ∷ is)) q ≡ ticks_of (holding t end j is).start)
          → entry_of (list_starts (i ∷ j ∷ is)) p ≡ ticks_of (pick b (until i j.start) (holding t end j is)).start
      go true e zero w rec = refl
      go true e (suc q) w rec =
          clash_ℤ (after_list pool j is (ltb-true t j.start e) r.1 q (omega (arith, w.inside))) w.not_after
      go false e zero w rec =
          clash_ℤ (w.last 1 (omega arith) (omega arith)) (record { le = told (ticks-le j.start t f ∙ le-leb j.start t (ltb-false t j.start e)) })
      go false e (suc q) w rec = rec q (record {
        inside = omega (arith, w.inside);
        not_after = w.not_after;
        last = λ k a b. w.last (suc k) (omega arith) (omega arith);
      })

  module _ (pool : ℕ) where
    list-entry : (end : ℕ) (is : List Interval) → ListOk pool is → (p n : ℕ) → find_start (list_starts is) (ticks_of t) ≡ Ok (p, n)
        → entry_of (list_starts is) p ≡ ticks_of (in_list t end is).start
    unfolding in_list list_starts
    list-entry end [] ok p n e = absurd ok
    list-entry end (i ∷ is) ok p n e =
        let w : Finds (list_starts (i ∷ is)) (ticks_of t) (find_start (list_starts (i ∷ is)) (ticks_of t)) = halving-finds (list_starts (i ∷ is)) (ticks_of t) some in
        let k : ◌≡◌ {A = Result (ℕ × ℕ) Fault} (Ok (w.position, w.probes)) (Ok (p, n)) = sym w.is ∙ e in
        let j : w.position ≡ p = (ok_parts k).0 in
        last-holds pool end i is ok.2 p
        (subst (LastNotAfter (list_starts (i ∷ is)) (ticks_of t)) j (w.last (rising-ascends pool i is ok.2) first))
      where
        some : 0 < length (list_starts (i ∷ is))
        some = omega arith

        first : entry_of (list_starts (i ∷ is)) 0 ≤ℤ ticks_of t
        first = record { le = told (ticks-le i.start t f ∙ le-leb i.start t (omega (arith, ok.0))) }

    -- on a zone's own table
    zone-entry : (id : ℕ) (b : Body) → BodyOk pool b → Listed t b → (p n : ℕ) → find_start (starts_of b) (ticks_of t) ≡ Ok (p, n)
        → entry_of (starts_of b) p ≡ ticks_of (in_body t id b).start
    unfolding starts_of in_body
    zone-entry id (fixed offset m) ok l p n e =
        let xs : List ℤ = ticks_of start_of_time ∷ [] in
        let w : Finds xs (ticks_of t) (find_start xs (ticks_of t)) = halving-finds xs (ticks_of t) (omega arith) in
        let k : ◌≡◌ {A = Result (ℕ × ℕ) Fault} (Ok (w.position, w.probes)) (Ok (p, n)) = sym w.is ∙ e in
        let j : w.position ≡ p = (ok_parts k).0 in
        let z : p ≡ 0 = omega (arith, w.inside) in
        ap (λ (q : ℕ). entry_of xs q) z
    zone-entry id (listed is end e) ok l p n k = list-entry end is ok.0 p n k ∙ rw (lt-ltb t end l) refl

-- THE ENTRY THAT HALVING LEAVES IS THE START OF THE INTERVAL THAT THE QUESTION GIVES
module _ (f id : List ℕ) (z : ℤ) (h : InRange z) (x : Found) (k : ask f id z All Two ≡ Ok x) where
  abbrev held : Holding f id
  held = ask-holding f id z All Two h x k

  abbrev asked : Zone
  asked = held.zone.zone

  pub starts-join : Listed (instant_of z) asked.body → (p n : ℕ) → find_start (starts_of asked.body) z ≡ Ok (p, n)
      → entry_of (starts_of asked.body) p ≡ x.start
  unfolding under
  starts-join l p n e =
      let t : Finite (instant_of z) = instant-finite (instant_of z) z refl h in
      let y : ticks_of (instant_of z) ≡ z = ticks-instant z t in
      let a : ◌≡◌ {A = Result Found Fault} (Ok (of_held (answer_at Two (instant_of z)) held.zone)) (Ok x) = sym (holding-asks f id z All Two h held) ∙ k in
      let b : of_held (answer_at Two (instant_of z)) held.zone ≡ x = cc in
      zone-entry (instant_of z) t (length (strings_of held.zone.pool.body)) asked.id asked.body (holding-sound f id held).body_ok l p n
      (ap (λ (u : ℤ). find_start (starts_of asked.body) u) y ∙ e)
      ∙ ap (λ (u : Found). u.start) b
