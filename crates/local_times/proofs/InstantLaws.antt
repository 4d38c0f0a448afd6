-- The instants that are computed are exactly those that read as the local time. Assumes nothing.
use mathlib.Core.Path.{◌≡◌, refl, sym, ◌∙◌, subst}
use mathlib.Core.Bool.{Bool, true, false}
use mathlib.Core.List.{List, [], ◌∷◌, ◌++◌}
use mathlib.Core.Logic.{◌⊎◌, inl, inr}
use Prim.Native.Nat.{ℕ, suc, ◌+◌, ◌-◌, ◌*◌, ◌≤◌, ◌<◌}
use native.Mathlib.Omega.{arith}
use lib.Dec.{leb, eqb}
use borrow.Author.Tests.{lt-ltb, le-ltb, le-leb, eq-eqb, ne_eqb, ltb-true, leb-true, eqb-true, eqb-false}
use Rattle.base.specs.Pick.{pick}
use Rattle.base.specs.Parsed.{behind}
use Rattle.base.specs.Moment.{Finite, finite, start_of_time, end_of_time}
use Rattle.base.proofs.Tests.{by_order, both_left, both_right}
use Rattle.base.proofs.MomentLaws.{finite-true, finite-yes}
use Rattle.recurrence.specs.declared.Tail.{Tail}
use Rattle.recurrence.specs.Tails.{wall_of, lookup}
use Rattle.intervals.specs.declared.Interval.{Interval}
use Rattle.intervals.specs.Interval.{start_of}
use Rattle.intervals.specs.Sound.{Rising}
use Rattle.tails.specs.declared.NamedTail.{NamedTail}
use Rattle.zones.specs.Content.{FixedName, untailed, tailed, Body, fixed, listed, Zone}
use Rattle.zones.specs.Sound.{BodyOk, Sound}
use Rattle.zones.proofs.PartitionLaws.{behind-start}
use Rattle.zones.specs.Lookup.{holding, in_list, in_tail, behind_list as behind_lookup, in_body}
use Rattle.local_times.specs.Reads.{Reads, Among, Rises, Lists}
use Rattle.local_times.specs.Instants.{fits, candidate, some, in_listing, of_list, in_force_at, tail_candidate, of_tail, behind_list, instants_of}
use Rattle.local_times.proofs.ListLaws.{among-left, among-right, among-split, rises-on}

-- t reads as l at the wall offset w, and stands from a to before e
pub record FitsAt (l w a e t : ℕ) : Type 0 where
  pub finite-is : Finite t
  pub sum : t + w * 10000 ≡ l
  pub from : a ≤ t
  pub to : t < e

module _ (l w a e : ℕ) where
  fits-true : fits l w a e ≡ true → FitsAt l w a e (l - w * 10000)
  fits-true h =
      let p = both_left (leb (w * 10000) l) _ h in
      let q = both_right (leb (w * 10000) l) _ h in
      let u = both_right (finite (l - w * 10000)) _ q in
      let k : w * 10000 ≤ l = leb-true _ _ p in
      record {
        finite-is = finite-true _ (both_left (finite (l - w * 10000)) _ q);
        sum = omega arith;
        from = leb-true _ _ (both_left (leb a (l - w * 10000)) _ u);
        to = ltb-true _ _ (both_right (leb a (l - w * 10000)) _ u);
      }

  fits-yes : (t : ℕ) → FitsAt l w a e t → fits l w a e ≡ true
  fits-yes t h =
      let k : l - w * 10000 ≡ t = omega (arith, h.sum) in
      rw (le-leb (w * 10000) l (omega (arith, h.sum)), k, finite-yes t h.finite-is, le-leb a t h.from, lt-ltb t e h.to)

  -- the candidate is what fits, or 0
  pub candidate-fits : (t : ℕ) → candidate l w a e ≡ t → (t ≡ 0 → ⊥) → FitsAt l w a e t
  unfolding candidate
  candidate-fits t c n = go (fits l w a e) refl c
    where
      go : (b : Bool) → fits l w a e ≡ b → pick b (l - w * 10000) 0 ≡ t → FitsAt l w a e t
      go true h k = subst (FitsAt l w a e) k (fits-true h)
      go false h k = absurd (n (sym k))

  pub candidate-is : (t : ℕ) → FitsAt l w a e t → candidate l w a e ≡ t
  unfolding candidate
  candidate-is t h = rw (fits-yes t h) (omega (arith, h.sum))

-- none where nothing fits
pub no-candidate : (l w a e : ℕ) → ((t : ℕ) → FitsAt l w a e t → ⊥) → candidate l w a e ≡ 0
no-candidate l w a e h = go (candidate l w a e) refl (eqb (candidate l w a e) 0) refl
  where
    go : (t : ℕ) → candidate l w a e ≡ t → (b : Bool) → eqb t 0 ≡ b → candidate l w a e ≡ 0
    go t c true k = c ∙ eqb-true t 0 k
    go t c false k = absurd (h t (candidate-fits l w a e t c (eqb-false t 0 k)))

-- as in an interval of no length
pub candidate-none : (l w a e : ℕ) → e ≤ a → candidate l w a e ≡ 0
candidate-none l w a e h = no-candidate l w a e (λ t f. omega (arith, f.from, f.to))

-- a number as a list
pub some_is : (c t : ℕ) → Among t (some c) → (c ≡ t) × (t ≡ 0 → ⊥)
some_is c t m = go (eqb c 0) refl m
  where
    go : (b : Bool) → eqb c 0 ≡ b → Among t (pick b [] (c ∷ [])) → (c ≡ t) × (t ≡ 0 → ⊥)
    go true h k = absurd k
    go false h (inl e) = (sym e, λ z. eqb-false c 0 h (sym e ∙ z))
    go false h (inr k) = absurd k

pub some-has : (c t : ℕ) → c ≡ t → (t ≡ 0 → ⊥) → Among t (some c)
some-has c t e n = rw (ne_eqb c 0 (λ z. n (sym e ∙ z))) (inl (sym e))

pub some-rises : (a c : ℕ) → ((c ≡ 0 → ⊥) → a ≤ c) → Rises a (some c)
some-rises a c h = go (eqb c 0) refl
  where
    go : (b : Bool) → eqb c 0 ≡ b → Rises a (pick b [] (c ∷ []))
    go true e = tt
    go false e = (h (eqb-false c 0 e), tt)

no_zero : {t : ℕ} → Finite t → t ≡ 0 → ⊥
no_zero f e = omega (arith, f.low)

-- one interval
module _ (l w a e : ℕ) where
  pub one-sound : (t : ℕ) → Among t (some (candidate l w a e)) → FitsAt l w a e t
  one-sound t m = let k = some_is (candidate l w a e) t m in candidate-fits l w a e t k.0 k.1

  pub one-complete : (t : ℕ) → FitsAt l w a e t → Among t (some (candidate l w a e))
  one-complete t h = some-has (candidate l w a e) t (candidate-is l w a e t h) (no_zero h.finite-is)

  pub one-rises : Rises a (some (candidate l w a e))
  one-rises = some-rises a (candidate l w a e) (λ n. (candidate-fits l w a e (candidate l w a e) refl n).from)

-- a list: what stands from the first start to before its end, and reads as l by the interval that holds it
pub record ReadsIn (l end : ℕ) (i : Interval) (is : List Interval) (t : ℕ) : Type 0 where
  pub finite-is : Finite t
  pub sum : t + (holding t end i is).wall * 10000 ≡ l
  pub from : i.start ≤ t
  pub to : t < end

-- no start is at or after the end
abbrev EndsBy : ℕ → List Interval → Type 0
EndsBy end [] = Unit {0}
EndsBy end (i ∷ is) = (i.start < end) × EndsBy end is

module _ (pool l end : ℕ) where
  listing-sound : (i : Interval) (is : List Interval) → Rising pool i.start is → EndsBy end is → (t : ℕ) → Among t (in_listing l end i is) → ReadsIn l end i is t
  unfolding in_listing holding
  listing-sound i [] h b t m =
      let k = one-sound l i.wall i.start end t m in
      record { finite-is = k.finite-is; sum = k.sum; from = k.from; to = k.to }
  listing-sound i (j ∷ is) h b t m =
      among-split t (some (candidate l i.wall i.start j.start)) (in_listing l end j is)
      (λ k. let u = one-sound l i.wall i.start j.start t k in
      record { finite-is = u.finite-is; sum = rw (lt-ltb t j.start u.to) u.sum; from = u.from; to = omega (arith, u.to, b.0) })
      (λ k. let u = listing-sound j is h.1 b.1 t k in
      record { finite-is = u.finite-is; sum = rw (le-ltb t j.start u.from) u.sum; from = omega (arith, u.from, h.0.rises); to = u.to })
      m

  listing-complete : (i : Interval) (is : List Interval) → (t : ℕ) → ReadsIn l end i is t → Among t (in_listing l end i is)
  unfolding in_listing holding
  listing-complete i [] t r = one-complete l i.wall i.start end t (record { finite-is = r.finite-is; sum = r.sum; from = r.from; to = r.to })
  listing-complete i (j ∷ is) t r =
      by_order t j.start
      (λ (k : t < j.start). among-left t (some (candidate l i.wall i.start j.start)) (in_listing l end j is)
      (one-complete l i.wall i.start j.start t (record { finite-is = r.finite-is; sum = rw (lt-ltb t j.start k) at r.sum; from = r.from; to = k })))
      (λ (k : j.start ≤ t). among-right t (some (candidate l i.wall i.start j.start)) (in_listing l end j is)
      (listing-complete j is t (record { finite-is = r.finite-is; sum = rw (le-ltb t j.start k) at r.sum; from = k; to = r.to })))

  listing-rises : (i : Interval) (is : List Interval) → Rising pool i.start is → Rises i.start (in_listing l end i is)
  unfolding in_listing
  listing-rises i [] h = one-rises l i.wall i.start end
  listing-rises i (j ∷ is) h =
      rises-on i.start j.start (some (candidate l i.wall i.start j.start)) (in_listing l end j is) (omega (arith, h.0.rises))
      (one-rises l i.wall i.start j.start) (λ t m. (one-sound l i.wall i.start j.start t m).to) (listing-rises j is h.1)

-- the starts lie before an end that the last one does
ends_by : (pool prev end : ℕ) (is : List Interval) → Rising pool prev is → behind start_of prev is < end → EndsBy end is
unfolding behind
ends_by pool prev end [] h b = tt
ends_by pool prev end (i ∷ is) h b = (omega (arith, behind-start pool i.start is h.1), ends_by pool i.start end is h.1 b)

finite-ends : (pool prev : ℕ) (is : List Interval) → Rising pool prev is → EndsBy end_of_time is
finite-ends pool prev [] h = tt
finite-ends pool prev (i ∷ is) h = (omega (arith, h.0.finite.high), finite-ends pool i.start is h.1)

-- the tail, from its start on
pub record ReadsTail (l : ℕ) (tail : Tail) (t : ℕ) : Type 0 where
  pub finite-is : Finite t
  pub sum : t + (lookup tail t).wall * 10000 ≡ l
  pub from : tail.start ≤ t

module _ (l : ℕ) (tail : Tail) where
  module _ (w : ℕ) where
    in-force : (t : ℕ) → FitsAt l w tail.start end_of_time t → (lookup tail t).wall ≡ w → tail_candidate l w tail ≡ t
    unfolding tail_candidate in_force_at
    in-force t h e =
        rw (candidate-is l w tail.start end_of_time t h, ne_eqb t 0 (no_zero h.finite-is), eq-eqb (lookup tail t).wall w e)

    forced : (t : ℕ) → tail_candidate l w tail ≡ t → (t ≡ 0 → ⊥) → FitsAt l w tail.start end_of_time t × ((lookup tail t).wall ≡ w)
    unfolding tail_candidate in_force_at
    forced t e n = go (eqb (candidate l w tail.start end_of_time) 0) e
      where
        by-wall : (b : Bool) → eqb (lookup tail (candidate l w tail.start end_of_time)).wall w ≡ b → pick b (candidate l w tail.start end_of_time) 0 ≡ t
            → FitsAt l w tail.start end_of_time t × ((lookup tail t).wall ≡ w)
        by-wall true k f =
            (candidate-fits l w tail.start end_of_time t f n, subst (λ (u : ℕ). (lookup tail u).wall ≡ w) f (eqb-true _ _ k))
        by-wall false k f = absurd (n (sym f))

        go : (b : Bool) → pick b 0 (in_force_at w tail (candidate l w tail.start end_of_time)) ≡ t → FitsAt l w tail.start end_of_time t × ((lookup tail t).wall ≡ w)
        go true f = absurd (n (sym f))
        go false f = by-wall (eqb (lookup tail (candidate l w tail.start end_of_time)).wall w) refl f

    offset-sound : (t : ℕ) → Among t (some (tail_candidate l w tail)) → ReadsTail l tail t
    offset-sound t m =
        let k = some_is (tail_candidate l w tail) t m in
        let f = forced t k.0 k.1 in
        record { finite-is = f.0.finite-is; sum = rw f.1 f.0.sum; from = f.0.from }

    offset-complete : (t : ℕ) → ReadsTail l tail t → (lookup tail t).wall ≡ w → Among t (some (tail_candidate l w tail))
    offset-complete t r e =
        some-has (tail_candidate l w tail) t
        (in-force t (record { finite-is = r.finite-is; sum = rw e at r.sum; from = r.from; to = omega (arith, r.finite-is.high) }) e)
        (no_zero r.finite-is)

    offset-fits : (t : ℕ) → Among t (some (tail_candidate l w tail)) → FitsAt l w tail.start end_of_time t
    offset-fits t m = let k = some_is (tail_candidate l w tail) t m in (forced t k.0 k.1).0

    offset-rises : (a : ℕ) → ((t : ℕ) → FitsAt l w tail.start end_of_time t → a ≤ t) → Rises a (some (tail_candidate l w tail))
    offset-rises a h = some-rises a (tail_candidate l w tail) (λ n. h _ (forced _ refl n).0)

  -- one of two offsets is in force
  which : (t : ℕ) → ((lookup tail t).wall ≡ wall_of tail) ⊎ ((lookup tail t).wall ≡ tail.offset)
  unfolding lookup
  which t = go (lookup tail t).daylight
    where
      go : (b : Bool) → (pick b (wall_of tail) tail.offset ≡ wall_of tail) ⊎ (pick b (wall_of tail) tail.offset ≡ tail.offset)
      go true = inl refl
      go false = inr refl

  -- the two, the one with the larger offset first
  module _ (w v : ℕ) (order : v < w) where
    pair-rises : Rises tail.start (some (tail_candidate l w tail) ++ some (tail_candidate l v tail))
    pair-rises = go (eqb (tail_candidate l w tail) 0) refl
      where
        go : (b : Bool) → eqb (tail_candidate l w tail) 0 ≡ b → Rises tail.start (pick b [] (tail_candidate l w tail ∷ []) ++ some (tail_candidate l v tail))
        go true e = offset-rises v tail.start (λ t h. h.from)
        go false e =
            let f = (forced w (tail_candidate l w tail) refl (eqb-false _ _ e)).0 in
            (f.from, offset-rises v (suc (tail_candidate l w tail)) (λ t h. omega (arith, f.sum, h.sum)))

    pair-sound : (t : ℕ) → Among t (some (tail_candidate l w tail) ++ some (tail_candidate l v tail)) → ReadsTail l tail t
    pair-sound t m = among-split t (some (tail_candidate l w tail)) (some (tail_candidate l v tail)) (offset-sound w t) (offset-sound v t) m

    pair-complete : (t : ℕ) → ReadsTail l tail t → ((lookup tail t).wall ≡ w) ⊎ ((lookup tail t).wall ≡ v)
        → Among t (some (tail_candidate l w tail) ++ some (tail_candidate l v tail))
    pair-complete t r (inl e) = among-left t (some (tail_candidate l w tail)) (some (tail_candidate l v tail)) (offset-complete w t r e)
    pair-complete t r (inr e) = among-right t (some (tail_candidate l w tail)) (some (tail_candidate l v tail)) (offset-complete v t r e)

  swap : {A B : Type 0} → A ⊎ B → B ⊎ A
  swap (inl a) = inr a
  swap (inr b) = inl b

  pub record TailListed (ts : List ℕ) : Type 0 where
    pub rises : Rises tail.start ts
    pub sound : (t : ℕ) → Among t ts → ReadsTail l tail t
    pub complete : (t : ℕ) → ReadsTail l tail t → Among t ts

  pub tail-listed : TailListed (of_tail l tail)
  unfolding of_tail
  tail-listed =
      by_order tail.offset (wall_of tail)
      (λ (h : tail.offset < wall_of tail). rw (lt-ltb tail.offset (wall_of tail) h) (record {
        rises = pair-rises (wall_of tail) tail.offset h;
        sound = pair-sound (wall_of tail) tail.offset h;
        complete = λ t r. pair-complete (wall_of tail) tail.offset h t r (which t);
      }))
      (λ (h : wall_of tail ≤ tail.offset). rw (le-ltb tail.offset (wall_of tail) h) (by_order (wall_of tail) tail.offset
      (λ (k : wall_of tail < tail.offset). rw (lt-ltb (wall_of tail) tail.offset k) (record {
        rises = pair-rises tail.offset (wall_of tail) k;
        sound = pair-sound tail.offset (wall_of tail) k;
        complete = λ t r. pair-complete tail.offset (wall_of tail) k t r (swap (which t));
      }))
      (λ (k : tail.offset ≤ wall_of tail). rw (le-ltb (wall_of tail) tail.offset k) (record {
        rises = offset-rises tail.offset tail.start (λ t f. f.from);
        sound = offset-sound tail.offset;
        complete = λ t r. offset-complete tail.offset t r (same t (which t) (omega arith));
      }))))
    where
      same : (t : ℕ) → ((lookup tail t).wall ≡ wall_of tail) ⊎ ((lookup tail t).wall ≡ tail.offset) → wall_of tail ≡ tail.offset
          → (lookup tail t).wall ≡ tail.offset
      same t (inl a) e = a ∙ e
      same t (inr b) e = b

-- THE INSTANTS THAT ARE COMPUTED ARE THOSE THAT READ AS THE LOCAL TIME
module _ (pool l id : ℕ) where
  abbrev of : Body → Zone
  of b = record { id = id; body = b }

  fixed-list : (offset : ℕ) (n : FixedName) → Lists (Reads (of (fixed offset n)) l) (instants_of l (fixed offset n))
  unfolding instants_of in_body
  fixed-list offset n = record {
    rises = one-rises l offset start_of_time end_of_time;
    sound = λ t m. let k = one-sound l offset start_of_time end_of_time t m in record { finite = k.finite-is; sum = k.sum };
    complete = λ t r. one-complete l offset start_of_time end_of_time t
        (record { finite-is = r.finite; sum = r.sum; from = omega arith; to = omega (arith, r.finite.high) });
  }

  untailed-list : (i : Interval) (is : List Interval) (end : ℕ) → BodyOk pool (listed (i ∷ is) end untailed)
      → Lists (Reads (of (listed (i ∷ is) end untailed)) l) (in_listing l end i is ++ [])
  unfolding in_body in_list
  untailed-list i is end h =
      let b : EndsBy end is = subst (λ (e : ℕ). EndsBy e is) (sym h.1) (finite-ends pool i.start is h.0.2) in
      record {
        rises = rises-on 0 end_of_time (in_listing l end i is) [] (omega arith) (rw (← h.0.0) (listing-rises pool l end i is h.0.2))
            (λ t m. omega (arith, (listing-sound pool l end i is h.0.2 b t m).to, h.1)) tt;
        sound = λ t m. among-split t (in_listing l end i is) []
            (λ k. let u = listing-sound pool l end i is h.0.2 b t k in
            record { finite = u.finite-is; sum = rw (lt-ltb t end u.to) u.sum })
            (λ k. absurd k) m;
        complete = λ t r.
            let k : t < end = omega (arith, r.finite.high, h.1) in
            among-left t (in_listing l end i is) [] (listing-complete pool l end i is t (record {
              finite-is = r.finite;
              sum = rw (lt-ltb t end k) at r.sum;
              from = omega (arith, h.0.0);
              to = k;
            }));
      }

  tailed-list : (i : Interval) (is : List Interval) (end : ℕ) (n : NamedTail) → BodyOk pool (listed (i ∷ is) end (tailed n))
      → Lists (Reads (of (listed (i ∷ is) end (tailed n))) l) (in_listing l end i is ++ of_tail l n.tail)
  unfolding in_body in_list behind_lookup in_tail behind
  tailed-list i is end n h =
      let b : EndsBy end is = ends_by pool i.start end is h.0.2 h.1.0 in
      let o : n.tail.start ≡ end = h.1.2.starts in
      let w : TailListed l n.tail (of_tail l n.tail) = tail-listed l n.tail in
      record {
        rises = rises-on 0 end (in_listing l end i is) (of_tail l n.tail) (omega arith) (rw (← h.0.0) (listing-rises pool l end i is h.0.2))
            (λ t m. (listing-sound pool l end i is h.0.2 b t m).to) (rw (← o) w.rises);
        sound = λ t m. among-split t (in_listing l end i is) (of_tail l n.tail)
            (λ k. let u = listing-sound pool l end i is h.0.2 b t k in
            record { finite = u.finite-is; sum = rw (lt-ltb t end u.to) u.sum })
            (λ k. let u = w.sound t k in
            record { finite = u.finite-is; sum = rw (le-ltb t end (omega (arith, u.from))) u.sum }) m;
        complete = λ t r. by_order t end
            (λ (k : t < end). among-left t (in_listing l end i is) (of_tail l n.tail) (listing-complete pool l end i is t (record {
              finite-is = r.finite;
              sum = rw (lt-ltb t end k) at r.sum;
              from = omega (arith, h.0.0);
              to = k;
            })))
            (λ (k : end ≤ t). among-right t (in_listing l end i is) (of_tail l n.tail) (w.complete t (record {
              finite-is = r.finite;
              sum = rw (le-ltb t end k) at r.sum;
              from = omega (arith, o);
            })));
      }

  body-list : (b : Body) → BodyOk pool b → Lists (Reads (of b) l) (instants_of l b)
  unfolding instants_of of_list behind_list
  body-list (fixed offset n) h = fixed-list offset n
  body-list (listed [] end e) h = absurd h.0
  body-list (listed (i ∷ is) end untailed) h = untailed-list i is end h
  body-list (listed (i ∷ is) end (tailed n)) h = tailed-list i is end n h

pub instants-list : (pool l : ℕ) (z : Zone) → Sound pool z → Lists (Reads z l) (instants_of l z.body)
instants-list pool l z h = body-list pool l z.id z.body h.body_ok
