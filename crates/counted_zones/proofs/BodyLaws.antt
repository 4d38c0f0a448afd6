-- The names of an interval, a tail and a zone's body, counted code by code. Assumes nothing.
use mathlib.Core.Path.{◌≡◌, refl, sym, ap, ◌∙◌}
use mathlib.Core.Bool.{Bool, true, false}
use mathlib.Core.List.{List, [], ◌∷◌, ◌++◌}
use Prim.Native.Nat.{ℕ, zero, suc, ◌+◌, ◌-◌, ◌≤◌, ◌<◌}
use native.Mathlib.Omega.{arith}
use lib.Dec.{ltb, eqb}
use lib.ListN.{length, get_or}
use borrow.Author.Tests.{lt-ltb, le-ltb, ne_eqb}
use Rattle.base.specs.Pick.{pick}
use Rattle.use_order.specs.Order.{mention, mention_all}
use Rattle.mention_runs.specs.Run.{Room}
use Rattle.counted_zones.specs.Steps.{count_end, moment_end, sum_end, number_at, number_end, interval_end, list_names, list_end, rule_end, daylight_at, tail_names, tail_end, tail_at, body_names, body_end, zone_names, zone_end}
use Rattle.counted_zones.specs.Going.{NameCounted}
use Rattle.counted_zones.proofs.StepLaws.{count-rises, moment-rises, sum-rises, number-rises}
use Rattle.counted_zones.proofs.CountLaws.{room_next, room-less, list-one, list-rises, interval-rises, moment-inside, name-inside, wall-inside, names-one}

-- behind a name
pub name-room : (s : List ℕ) (p : ℕ) (u : List ℕ) (e : ℕ) (w : List ℕ) → NameCounted s p u e w → e ≤ length s → Room u (length s - p) → Room w (length s - e)
name-room s p u e w c h r =
    rw c.uses (room_next u (length s - p) (length s - e) (number_at s p) r (omega (arith, number-rises s p, c.place)))

-- ---- an interval: transition, name, wall offset, savings
module _ (s : List ℕ) (p : ℕ) (h : list_end s p 1 ≤ length s) where
  last : interval_end s p ≤ length s
  last = omega (arith, h, list-one s p)

  pub interval-moment : moment_end s p ≤ length s
  interval-moment = omega (arith, last, moment-inside s p)

  module _ (m : ℕ) (em : m ≡ moment_end s p) (u : List ℕ) where
    pub interval-name : Room u (length s - p) → (number_end s m ≤ length s) × Room u (length s - m)
    interval-name r = rw em (omega (arith, last, name-inside s p), room-less u (length s - p) (length s - moment_end s p) r (omega (arith, moment-rises s p)))

    module _ (q : ℕ) (w : List ℕ) (c : NameCounted s m u q w) where
      pub interval-wall : sum_end s q ≤ length s
      interval-wall = rw (c.place, em) (omega (arith, last, wall-inside s p))

      module _ (r : ℕ) (er : r ≡ sum_end s q) where
        pub interval-savings : sum_end s r ≤ length s
        unfolding interval_end
        interval-savings = rw (er, c.place, em) last

        pub interval-end : (e : ℕ) → e ≡ sum_end s r → (e ≡ list_end s p 1) × (w ≡ mention_all (list_names s p 1) u)
        unfolding interval_end
        interval-end e ee = (ee ∙ rw (er, c.place, em) (sym (list-one s p)), c.uses ∙ ap (λ (x : ℕ). mention (number_at s x) u) em ∙ names-one s p u)

-- ---- a tail, from the tail byte on
module _ (s : List ℕ) (p : ℕ) (h : tail_end s p ≤ length s) where
  pub tail-byte : p < length s
  unfolding tail_end daylight_at rule_end
  tail-byte = go (eqb (get_or s p 0) 1) h
    where
      go : (t : Bool) → pick t (number_end s (daylight_at s (p + 1))) (p + 1) ≤ length s → p < length s
      go true k =
          let a = sum_end s (p + 1) in
          let b = number_end s a in
          let m = count_end s (b + 1) in
          let d = count_end s m in
          omega (arith, k, sum-rises s (p + 1), number-rises s a, count-rises s (b + 1), count-rises s m, sum-rises s d, number-rises s (sum_end s d))
      go false k = omega (arith, k)

  pub tail_none : (u : List ℕ) → (get_or s p 0 ≡ 1 → ⊥) → u ≡ mention_all (tail_names s p) u
  unfolding tail_names mention_all
  tail_none u n = rw (ne_eqb (get_or s p 0) 1 n)

  module _ (one : get_or s p 0 ≡ 1) where
    abbrev a : ℕ
    a = sum_end s (p + 1)

    abbrev b : ℕ
    b = number_end s a

    abbrev m₀ : ℕ
    m₀ = count_end s (b + 1)

    abbrev d₀ : ℕ
    d₀ = count_end s m₀

    abbrev t₀ : ℕ
    t₀ = sum_end s d₀

    all : number_end s t₀ ≤ length s
    unfolding tail_end daylight_at rule_end
    all = (rw one at h)

    pub tail-offset : a ≤ length s
    tail-offset = omega (arith, all, number-rises s a, count-rises s (b + 1), count-rises s m₀, sum-rises s d₀, number-rises s t₀)

    module _ (n : ℕ) (en : n ≡ sum_end s (p + 1)) (u : List ℕ) where
      pub tail-standard : Room u (length s - p) → (number_end s n ≤ length s) × Room u (length s - n)
      tail-standard r =
          rw en (omega (arith, all, count-rises s (b + 1), count-rises s m₀, sum-rises s d₀, number-rises s t₀), room-less u (length s - p) (length s - a) r (omega (arith, sum-rises s (p + 1))))

      module _ (q : ℕ) (w : List ℕ) (c : NameCounted s n u q w) where
        q-is : q ≡ b
        q-is = c.place ∙ ap (number_end s) en

        pub tail-rule : q + 1 ≤ length s
        tail-rule = omega (arith, q-is, all, count-rises s (b + 1), count-rises s m₀, sum-rises s d₀, number-rises s t₀)

        pub tail-month : count_end s (q + 1) ≤ length s
        tail-month = rw q-is (omega (arith, all, count-rises s m₀, sum-rises s d₀, number-rises s t₀))

        module _ (month : ℕ) (e₁ : month ≡ count_end s (q + 1)) where
          month-is : month ≡ m₀
          month-is = e₁ ∙ ap (λ (x : ℕ). count_end s (x + 1)) q-is

          pub tail-day : count_end s month ≤ length s
          tail-day = rw month-is (omega (arith, all, sum-rises s d₀, number-rises s t₀))

          module _ (day : ℕ) (e₂ : day ≡ count_end s month) where
            day-is : day ≡ d₀
            day-is = e₂ ∙ ap (count_end s) month-is

            pub tail-time : sum_end s day ≤ length s
            tail-time = rw day-is (omega (arith, all, number-rises s t₀))

            module _ (time : ℕ) (e₃ : time ≡ sum_end s day) where
              time-is : time ≡ t₀
              time-is = e₃ ∙ ap (sum_end s) day-is

              pub tail-daylight : Room u (length s - p) → (number_end s time ≤ length s) × Room w (length s - time)
              tail-daylight r =
                  let st = tail-standard r in
                  let room = name-room s n u q w c (omega (arith, tail-rule)) st.1 in
                  rw time-is (all, room-less w (length s - q) (length s - t₀) room (omega (arith, q-is, count-rises s (b + 1), count-rises s m₀, sum-rises s d₀)))

              pub tail-names : (e : ℕ) (x : List ℕ) → NameCounted s time w e x → x ≡ mention_all (tail_names s p) u
              unfolding tail_names mention_all daylight_at rule_end
              tail-names e x k =
                  rw one
                  (k.uses ∙ ap (λ (y : ℕ). mention (number_at s y) w) time-is ∙ ap (mention (number_at s t₀)) (c.uses ∙ ap (λ (y : ℕ). mention (number_at s y) u) en))

-- ---- the body, from the flag on
pub mention-append : (xs ys u : List ℕ) → mention_all (xs ++ ys) u ≡ mention_all ys (mention_all xs u)
unfolding mention_all
mention-append [] ys u = refl
mention-append (k ∷ xs) ys u = mention-append xs ys (mention k u)

pub tail-rises : (s : List ℕ) (p : ℕ) → p + 1 ≤ tail_end s p
unfolding tail_end daylight_at rule_end
tail-rises s p = go (eqb (get_or s p 0) 1)
  where
    go : (t : Bool) → p + 1 ≤ pick t (number_end s (daylight_at s (p + 1))) (p + 1)
    go true =
        let a = sum_end s (p + 1) in
        let b = number_end s a in
        let m = count_end s (b + 1) in
        let d = count_end s m in
        omega (arith, sum-rises s (p + 1), number-rises s a, count-rises s (b + 1), count-rises s m, sum-rises s d, number-rises s (sum_end s d))
    go false = omega arith

-- uses of n names leave room for what follows
list-room : (s : List ℕ) (p n : ℕ) (u : List ℕ) → list_end s p n ≤ length s → Room u (length s - p) → Room (mention_all (list_names s p n) u) (length s - list_end s p n)
unfolding list_end list_names mention_all
list-room s p zero u h r = r
list-room s p (suc n) u h r =
    list-room s (interval_end s p) n (mention (number_at s (moment_end s p)) u) h
    (room_next u (length s - p) (length s - interval_end s p) (number_at s (moment_end s p)) r (omega (arith, h, interval-rises s p, list-rises s (interval_end s p) n)))

module _ (s : List ℕ) (p : ℕ) where
  abbrev offset-end : ℕ
  offset-end = sum_end s (p + 1)

  abbrev first : ℕ
  first = number_end s (p + 1)

  abbrev behind-list : ℕ
  behind-list = list_end s first (number_at s (p + 1))

  fixed-rises : (t : Bool) → offset-end ≤ pick t (number_end s offset-end) offset-end
  fixed-rises true = omega (arith, number-rises s offset-end)
  fixed-rises false = omega arith

  listed-rises : first + 2 ≤ tail_end s (moment_end s behind-list)
  listed-rises = omega (arith, list-rises s first (number_at s (p + 1)), moment-rises s behind-list, tail-rises s (moment_end s behind-list))

  pub body-rises : p + 2 ≤ body_end s p
  unfolding body_end tail_at
  body-rises = go (eqb (get_or s p 0) 1)
    where
      go : (t : Bool) → p + 2 ≤ pick t (pick (ltb offset-end (length s)) (number_end s offset-end) offset-end) (tail_end s (moment_end s behind-list))
      go true = omega (arith, fixed-rises (ltb offset-end (length s)), sum-rises s (p + 1))
      go false = omega (arith, listed-rises, number-rises s (p + 1))

  module _ (h : body_end s p ≤ length s) where
    -- a fixed zone
    module _ (one : get_or s p 0 ≡ 1) where
      fixed-last : pick (ltb offset-end (length s)) (number_end s offset-end) offset-end ≤ length s
      unfolding body_end
      fixed-last = (rw one at h)

      pub body-offset : sum_end s (p + 1) ≤ length s
      body-offset = omega (arith, fixed-last, fixed-rises (ltb offset-end (length s)))

      module _ (e : ℕ) (ee : e ≡ sum_end s (p + 1)) (u : List ℕ) where
        pub body-nameless : length s ≤ e → u ≡ mention_all (body_names s p) u
        unfolding body_names mention_all
        body-nameless l = rw (one, le-ltb offset-end (length s) (omega (arith, ee, l)))

        module _ (l : e < length s) where
          more : offset-end < length s
          more = omega (arith, ee, l)

          pub body-name : Room u (length s - p) → (number_end s e ≤ length s) × Room u (length s - e)
          body-name r =
              rw ee ((rw (lt-ltb offset-end (length s) more) at fixed-last), room-less u (length s - p) (length s - offset-end) r (omega (arith, sum-rises s (p + 1))))

          pub body-named : (x : ℕ) (w : List ℕ) → NameCounted s e u x w → w ≡ mention_all (body_names s p) u
          unfolding body_names mention_all
          body-named x w c = rw (one, lt-ltb offset-end (length s) more) (c.uses ∙ ap (λ (y : ℕ). mention (number_at s y) u) ee)

    -- a listed one
    module _ (other : get_or s p 0 ≡ 1 → ⊥) where
      listed-last : tail_end s (moment_end s behind-list) ≤ length s
      unfolding body_end tail_at
      listed-last = (rw (ne_eqb (get_or s p 0) 1 other) at h)

      pub body-count : number_end s (p + 1) ≤ length s
      body-count = omega (arith, listed-last, listed-rises)

      module _ (n : ℕ) (en : n ≡ number_at s (p + 1)) (from : ℕ) (ef : from ≡ number_end s (p + 1)) (u : List ℕ) where
        pub body-list : Room u (length s - p) → (list_end s from n ≤ length s) × Room u (length s - from)
        body-list r =
            rw (ef, en)
            (omega (arith, listed-last, moment-rises s behind-list, tail-rises s (moment_end s behind-list)), room-less u (length s - p) (length s - first) r (omega (arith, number-rises s (p + 1))))

        module _ (q : ℕ) (w : List ℕ) (c : (q ≡ list_end s from n) × (w ≡ mention_all (list_names s from n) u)) where
          q-end : q ≡ behind-list
          q-end = c.0 ∙ rw (ef, en) refl

          pub body-end : moment_end s q ≤ length s
          body-end = rw q-end (omega (arith, listed-last, tail-rises s (moment_end s behind-list)))

          module _ (t : ℕ) (et : t ≡ moment_end s q) where
            t-is : t ≡ moment_end s behind-list
            t-is = et ∙ ap (moment_end s) q-end

            pub body-tail : Room u (length s - p) → (tail_end s t ≤ length s) × Room w (length s - t)
            body-tail r =
                let l = body-list r in
                let z = list-room s from n u l.0 l.1 in
                rw (t-is, c.1)
                (listed-last, room-less _ (length s - list_end s from n) (length s - moment_end s behind-list) z (omega (arith, c.0, q-end, moment-rises s behind-list)))

            pub body-names : (x : List ℕ) → x ≡ mention_all (tail_names s t) w → x ≡ mention_all (body_names s p) u
            unfolding body_names tail_at
            body-names x e =
                rw (ne_eqb (get_or s p 0) 1 other)
                (e ∙ rw (t-is, c.1, ef, en) (sym (mention-append (list_names s first (number_at s (p + 1))) (tail_names s (moment_end s behind-list)) u)))

-- ---- a zone
module _ (s : List ℕ) (h : zone_end s ≤ length s) where
  pub zone-id : number_end s 0 ≤ length s
  unfolding zone_end
  zone-id = omega (arith, h, body-rises s (number_end s 0))

  module _ (at : ℕ) (u w : List ℕ) (c : NameCounted s 0 u at w) where
    pub zone-body : Room u (length s) → (body_end s at ≤ length s) × Room w (length s - at)
    unfolding zone_end
    zone-body r = (rw c.place h, name-room s 0 u at w c (omega (arith, zone-id, c.place)) (room-less u (length s) (length s - 0) r (omega arith)))

    pub zone-names : (x : List ℕ) → x ≡ mention_all (body_names s at) w → x ≡ mention_all (zone_names s) u
    unfolding zone_names mention_all
    zone-names x e = e ∙ rw (c.place, c.uses) refl
