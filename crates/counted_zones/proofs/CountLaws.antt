-- Names counted along the codes of a zone. Assumes nothing.
use mathlib.Core.Path.{◌≡◌, refl, sym, ap, ◌∙◌, subst}
use mathlib.Core.Bool.{Bool, true, false}
use mathlib.Core.List.{List}
use Prim.Native.Nat.{ℕ, zero, suc, ◌+◌, ◌-◌, ◌≤◌, ◌<◌}
use native.Mathlib.Omega.{arith}
use lib.Dec.{ltb}
use lib.ListN.{length, get_or}
use borrow.Author.Tests.{ltb-true}
use Rattle.base.proofs.Tests.{clash}
use Rattle.use_order.specs.Order.{mention, mention_all}
use Rattle.use_order.proofs.NumberLaws.{length-mention, mention-most}
use Rattle.mention_runs.specs.Run.{Room}
use Rattle.counted_zones.specs.Steps.{moment_end, sum_end, number_at, number_end, interval_end, list_names, list_end}
use Rattle.counted_zones.specs.Going.{Going, IsFive, IsTick, NameCounted}
use Rattle.counted_zones.proofs.StepLaws.{moment-rises, sum-rises, number-rises, number-one, tick-ends}

-- one use more leaves room for one less
pub room-one : (u : List ℕ) (n k : ℕ) → Room u n → 0 < n → get_or u k 0 < 4294967295
room-one u n k r h = omega (arith, r.room k)

pub room_next : (u : List ℕ) (n m j : ℕ) → Room u n → m < n → Room (mention j u) m
room_next u n m j r h = record { room = λ k. let z = mention-most j k u in omega (arith, r.room k) }

pub room-less : (u : List ℕ) (n m : ℕ) → Room u n → m ≤ n → Room u m
room-less u n m r h = record { room = λ k. omega (arith, r.room k) }

-- an interval
module _ (s : List ℕ) (p : ℕ) where
  pub interval-rises : p + 4 ≤ interval_end s p
  unfolding interval_end
  interval-rises = omega (arith, moment-rises s p, number-rises s (moment_end s p), sum-rises s (number_end s (moment_end s p)), sum-rises s (sum_end s (number_end s (moment_end s p))))

  pub moment-inside : moment_end s p + 3 ≤ interval_end s p
  unfolding interval_end
  moment-inside = omega (arith, number-rises s (moment_end s p), sum-rises s (number_end s (moment_end s p)), sum-rises s (sum_end s (number_end s (moment_end s p))))

  pub name-inside : number_end s (moment_end s p) + 2 ≤ interval_end s p
  unfolding interval_end
  name-inside = omega (arith, sum-rises s (number_end s (moment_end s p)), sum-rises s (sum_end s (number_end s (moment_end s p))))

  pub wall-inside : sum_end s (number_end s (moment_end s p)) + 1 ≤ interval_end s p
  unfolding interval_end
  wall-inside = omega (arith, sum-rises s (sum_end s (number_end s (moment_end s p))))

pub list-rises : (s : List ℕ) (p n : ℕ) → p ≤ list_end s p n
unfolding list_end
list-rises s p zero = omega arith
list-rises s p (suc n) = let r = list-rises s (interval_end s p) n in let i = interval-rises s p in omega arith

pub list-one : (s : List ℕ) (p : ℕ) → list_end s p 1 ≡ interval_end s p
unfolding list_end
list-one s p = refl

pub first-inside : (s : List ℕ) (p n : ℕ) → 0 < n → interval_end s p ≤ list_end s p n
unfolding list_end
first-inside s p zero h = absurd (omega arith)
first-inside s p (suc n) h = list-rises s (interval_end s p) n

pub names-one : (s : List ℕ) (p : ℕ) (u : List ℕ) → mention (number_at s (moment_end s p)) u ≡ mention_all (list_names s p 1) u
unfolding list_names mention_all
names-one s p u = refl

-- an interval in ticks
module _ (s : List ℕ) (p : ℕ) where
  pub no-tick : IsTick s p false
  no-tick = record { name = λ t. clash cc; ends = λ t. clash cc }

  pub some-tick : get_or s p 0 ≡ 2 → get_or s (p + 9) 0 ≤ 127 → get_or s (p + 10) 0 ≤ 127 → IsTick s p (ltb (get_or s (p + 11) 0) 128)
  some-tick a c d =
      record {
        name = λ t. ap (number_at s) (ends t).0 ∙ sym (number-one s (p + 9) (omega arith));
        ends = λ t. (ends t).1;
      }
    where
      ends : ltb (get_or s (p + 11) 0) 128 ≡ true → (moment_end s p ≡ p + 9) × (interval_end s p ≡ p + 12)
      ends t = tick-ends s p a (omega arith) (omega arith) (ltb-true (get_or s (p + 11) 0) 128 t)

-- n intervals, one by one
module _ (s : List ℕ) (at left : ℕ) (u : List ℕ) where
  pub going_start : Room u (length s - at) → Going s (mention_all (list_names s at left) u) (list_end s at left) (length u) at left u
  going_start r = record { ends = refl; same = refl; all = refl; room = r }

module _ (s whole : List ℕ) (end size p n : ℕ) (w : List ℕ) (g : Going s whole end size p n w) (h : end ≤ length s) where
  pub going-within : p ≤ length s
  going-within = let r = list-rises s p n in omega (arith, g.ends)

  module _ (l : 0 < n) where
    pub going-first : interval_end s p ≤ length s
    going-first = let r = first-inside s p n l in omega (arith, g.ends)

    pub going_next : (e m : ℕ) (x : List ℕ) → e ≡ interval_end s p → m ≡ n - 1 → x ≡ mention (number_at s (moment_end s p)) w → Going s whole end size e m x
    unfolding list_end list_names mention_all
    going_next e m x ee em ex = go n refl
      where
        go : (k : ℕ) → n ≡ k → Going s whole end size e m x
        go zero z = absurd (omega arith)
        go (suc k) z =
            let d : n - 1 ≡ k = omega arith in
            let i = interval-rises s p in
            let f = going-first in
            rw (ee, em, d, ex) (record {
              ends = subst (λ (y : ℕ). list_end s p y ≡ end) z g.ends;
              same = subst (λ (y : ℕ). mention_all (list_names s p y) w ≡ whole) z g.same;
              all = length-mention (number_at s (moment_end s p)) w ∙ g.all;
              room = room_next w (length s - p) (length s - interval_end s p) (number_at s (moment_end s p)) g.room (omega arith);
            })

    pub going-five : (k m : ℕ) (x : List ℕ) (r : Bool) → IsFive s p k r → r ≡ true → m ≡ n - 1 → x ≡ mention k w → Going s whole end size (p + 5) m x
    going-five k m x r f t em ex = going_next (p + 5) m x (sym (f.ends t)) em (ex ∙ ap (λ (j : ℕ). mention j w) (sym (f.name t)))

    pub going-tick : (m : ℕ) (x : List ℕ) (r : Bool) → IsTick s p r → r ≡ true → m ≡ n - 1 → x ≡ mention (get_or s (p + 9) 0) w → Going s whole end size (p + 12) m x
    going-tick m x r f t em ex = going_next (p + 12) m x (sym (f.ends t)) em (ex ∙ ap (λ (j : ℕ). mention j w) (sym (f.name t)))

    pub going-one : (e m : ℕ) (x : List ℕ) → (e ≡ list_end s p 1) × (x ≡ mention_all (list_names s p 1) w) → m ≡ n - 1 → Going s whole end size e m x
    going-one e m x d em = going_next e m x (d.0 ∙ list-one s p) em (d.1 ∙ sym (names-one s p w))

  pub going_end : n ≡ 0 → (p ≡ end) × (w ≡ whole)
  unfolding list_end list_names mention_all
  going_end z = (subst (λ (y : ℕ). list_end s p y ≡ end) z g.ends, subst (λ (y : ℕ). mention_all (list_names s p y) w ≡ whole) z g.same)

-- a run behind others
module _ (s whole : List ℕ) (end size p n : ℕ) (w : List ℕ) (g : Going s whole end size p n w) (q m : ℕ) (x : List ℕ) where
  pub going_on : Going s (mention_all (list_names s p n) w) (list_end s p n) (length w) q m x → Going s whole end size q m x
  going_on r = record { ends = r.ends ∙ g.ends; same = r.same ∙ g.same; all = r.all ∙ g.all; room = r.room }

-- a name
pub name-counted : (s : List ℕ) (p : ℕ) (u : List ℕ) (k e : ℕ) (w : List ℕ) → k ≡ number_at s p → w ≡ mention k u → e ≡ number_end s p → NameCounted s p u e w
name-counted s p u k e w a b c = record { place = c; uses = b ∙ ap (λ (j : ℕ). mention j u) a }

-- what is to come is inside, with room for it
module _ (s whole : List ℕ) (end size p n : ℕ) (w : List ℕ) (g : Going s whole end size p n w) (h : end ≤ length s) where
  pub going-list : (list_end s p n ≤ length s) × Room w (length s - p)
  going-list = (omega (arith, h, g.ends), g.room)

  pub going-interval : 0 < n → (list_end s p 1 ≤ length s) × Room w (length s - p)
  going-interval l = (omega (arith, h, g.ends, first-inside s p n l, list-one s p), g.room)
