-- What is counted on the way comes to the tally of the instants. Assumes nothing.
use mathlib.Core.Path.{◌≡◌, refl, sym, ap, ◌∙◌}
use mathlib.Core.Bool.{Bool, true, false}
use mathlib.Core.List.{List, [], ◌∷◌, ◌++◌, append-nil, append_assoc}
use Prim.Native.Nat.{ℕ, ◌+◌, ◌≤◌}
use native.Mathlib.Omega.{arith}
use lib.Dec.{ltb, eqb}
use lib.ListN.{length, length-append}
use borrow.Author.Tests.{eq-eqb, ne_eqb}
use Rattle.base.specs.Pick.{pick}
use Rattle.base.proofs.Tests.{pick-holds}
use Rattle.recurrence.specs.declared.Tail.{Tail}
use Rattle.recurrence.specs.Tails.{wall_of}
use Rattle.intervals.specs.declared.Interval.{Interval}
use Rattle.intervals.specs.Sound.{ListOk}
use Rattle.local_times.specs.Tally.{latest_of, nothing, tally_of}
use Rattle.local_times.specs.Instants.{candidate, some, in_listing, of_list, tail_candidate, of_tail}
use Rattle.local_times.specs.View.{counted, advance, scan_from, unscanned, scanned, with_last, with_tail}
use Rattle.local_times.proofs.InstantLaws.{candidate-none}
use Rattle.local_times.specs.declared.Tally.{Tally}
use Rattle.local_times.specs.declared.LocalScan.{LocalScan}

-- one instant more
latest-snoc : (t u : ℕ) (us : List ℕ) → latest_of u (us ++ t ∷ []) ≡ t
unfolding latest_of
latest-snoc t u [] = refl
latest-snoc t u (v ∷ us) = latest-snoc t v us

tally-snoc : (t u : ℕ) (us : List ℕ) → ◌≡◌ {A = Tally} (record { count = length (u ∷ us) + 1; earliest = u; latest = t }) (tally_of (u ∷ us ++ t ∷ []))
tally-snoc t u us =
    let e : length (u ∷ us) + 1 ≡ length (u ∷ us ++ t ∷ []) = omega (arith, length-append us (t ∷ [])) in
    rw (e, latest-snoc t u us)

pub counted_is : (t : ℕ) (ts : List ℕ) → counted (tally_of ts) t ≡ tally_of (ts ++ some t)
unfolding counted latest_of
counted_is t ts = go (eqb t 0)
  where
    more : (us : List ℕ)
        → pick (eqb (tally_of us).count 0) (record { count = 1; earliest = t; latest = t }) (record { count = (tally_of us).count + 1; earliest = (tally_of us).earliest; latest = t })
        ≡ tally_of (us ++ t ∷ [])
    more [] = refl
    more (u ∷ us) = rw (ne_eqb (length (u ∷ us)) 0 (omega arith)) (tally-snoc t u us)

    go : (b : Bool)
        → pick b (tally_of ts) (pick (eqb (tally_of ts).count 0) (record { count = 1; earliest = t; latest = t })
        (record { count = (tally_of ts).count + 1; earliest = (tally_of ts).earliest; latest = t }))
        ≡ tally_of (ts ++ pick b [] (t ∷ []))
    go true = ap tally_of (sym (append-nil ts))
    go false = more ts

pub counted-few : (a : Tally) (t : ℕ) → (counted a t).count ≤ a.count + 1
unfolding counted
counted-few a t =
    pick-holds (λ (x : Tally). x.count ≤ a.count + 1) (eqb t 0) (λ _. omega arith)
    (λ _. pick-holds (λ (x : Tally). x.count ≤ a.count + 1) (eqb a.count 0) (λ _. omega arith) (λ _. omega arith))

-- the ways out of the code's function
module _ (a : Tally) (t : ℕ) where
  pub counted_none : t ≡ 0 → a ≡ counted a t
  unfolding counted
  counted_none h = rw (eq-eqb t 0 h)

  pub counted-first : (t ≡ 0 → ⊥) → a.count ≡ 0 → ◌≡◌ {A = Tally} (record { count = 1; earliest = t; latest = t }) (counted a t)
  unfolding counted
  counted-first n e = rw (ne_eqb t 0 n, eq-eqb a.count 0 e)

  pub counted-more : (t ≡ 0 → ⊥) → (a.count ≡ 0 → ⊥)
      → ◌≡◌ {A = Tally} (record { count = a.count + 1; earliest = a.earliest; latest = t }) (counted a t)
  unfolding counted
  counted-more n e = rw (ne_eqb t 0 n, ne_eqb a.count 0 e)

-- a list from what is held on
from-held : (l end : ℕ) (xs : List ℕ) (c : LocalScan) (is : List Interval) → c.tally ≡ tally_of xs
    → with_last l (scan_from l c is) end ≡ tally_of (xs ++ in_listing l end c.held is)
unfolding with_last scan_from in_listing advance
from-held l end xs c [] e = rw e (counted_is (candidate l c.held.wall c.held.start end) xs)
from-held l end xs c (j ∷ is) e =
    let t : ℕ = candidate l c.held.wall c.held.start j.start in
    from-held l end (xs ++ some (candidate l c.held.wall c.held.start j.start)) (advance l c j) is
    (rw e (counted_is (candidate l c.held.wall c.held.start j.start) xs))
    ∙ ap tally_of (append_assoc xs (some (candidate l c.held.wall c.held.start j.start)) (in_listing l end j is))

-- before the first start nothing is counted
none_before : (l : ℕ) (i : Interval) → i.start ≡ 0 → counted nothing (candidate l 0 0 i.start) ≡ nothing
none_before l i e = sym (counted_none nothing (candidate l 0 0 i.start) (candidate-none l 0 0 i.start (omega arith)))

pub last-is : (pool l end : ℕ) (is : List Interval) → ListOk pool is → with_last l (scanned l is) end ≡ tally_of (of_list l end is)
unfolding scanned scan_from of_list advance
last-is pool l end [] h = absurd h
last-is pool l end (i ∷ is) h = from-held l end [] (advance l unscanned i) is (none_before l i h.0)

pub tail-is : (l : ℕ) (ts : List ℕ) (tail : Tail) → with_tail l (tally_of ts) tail ≡ tally_of (ts ++ of_tail l tail)
unfolding with_tail of_tail
tail-is l ts tail = go (ltb tail.offset (wall_of tail)) (ltb (wall_of tail) tail.offset)
  where
    d : ℕ
    d = tail_candidate l (wall_of tail) tail

    s : ℕ
    s = tail_candidate l tail.offset tail

    two : (u v : ℕ) → counted (counted (tally_of ts) u) v ≡ tally_of (ts ++ (some u ++ some v))
    two u v =
        ap (λ (a : Tally). counted a v) (counted_is u ts) ∙ counted_is v (ts ++ some u) ∙ ap tally_of (append_assoc ts (some u) (some v))

    go : (p q : Bool)
        → pick p (counted (counted (tally_of ts) d) s) (pick q (counted (counted (tally_of ts) s) d) (counted (tally_of ts) s))
        ≡ tally_of (ts ++ pick p (some d ++ some s) (pick q (some s ++ some d) (some s)))
    go true q = two d s
    go false true = two s d
    go false false = counted_is s ts
