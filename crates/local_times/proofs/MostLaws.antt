-- A listed interval has one instant at most and a tail two, so a zone has 4,098 at most. Assumes nothing.
use mathlib.Core.List.{List, [], ◌∷◌, ◌++◌}
use Prim.Native.Nat.{ℕ, ◌≤◌}
use native.Mathlib.Omega.{arith}
use lib.Dec.{ltb, eqb}
use lib.ListN.{length, length-append}
use Rattle.base.specs.Moment.{start_of_time, end_of_time}
use Rattle.base.proofs.Tests.{pick-holds}
use Rattle.recurrence.specs.declared.Tail.{Tail}
use Rattle.recurrence.specs.Tails.{wall_of}
use Rattle.intervals.specs.declared.Interval.{Interval}
use Rattle.zones.specs.Content.{Ending, untailed, tailed, Body, fixed, listed}
use Rattle.zones.specs.Sound.{BodyOk}
use Rattle.local_times.specs.Instants.{candidate, some, in_listing, of_list, tail_candidate, of_tail, behind_list, instants_of}

some-most : (t : ℕ) → length (some t) ≤ 1
some-most t = pick-holds (λ (ts : List ℕ). length ts ≤ 1) (eqb t 0) (λ e. omega arith) (λ e. omega arith)

two-most : (t u : ℕ) → length (some t ++ some u) ≤ 2
two-most t u = omega (arith, length-append (some t) (some u), some-most t, some-most u)

listing-most : (l end : ℕ) (i : Interval) (is : List Interval) → length (in_listing l end i is) ≤ length (i ∷ is)
unfolding in_listing
listing-most l end i [] = some-most (candidate l i.wall i.start end)
listing-most l end i (j ∷ is) =
    omega (
      arith,
      length-append (some (candidate l i.wall i.start j.start)) (in_listing l end j is),
      some-most (candidate l i.wall i.start j.start),
      listing-most l end j is,
    )

list-most : (l end : ℕ) (is : List Interval) → length (of_list l end is) ≤ length is
unfolding of_list
list-most l end [] = omega arith
list-most l end (i ∷ is) = listing-most l end i is

tail-most : (l : ℕ) (tail : Tail) → length (of_tail l tail) ≤ 2
unfolding of_tail
tail-most l tail =
    pick-holds (λ (ts : List ℕ). length ts ≤ 2) (ltb tail.offset (wall_of tail)) (λ e. two-most (tail_candidate l (wall_of tail) tail) (tail_candidate l tail.offset tail))
    (λ e. pick-holds (λ (ts : List ℕ). length ts ≤ 2) (ltb (wall_of tail) tail.offset) (λ e. two-most (tail_candidate l tail.offset tail) (tail_candidate l (wall_of tail) tail))
    (λ e. omega (arith, some-most (tail_candidate l tail.offset tail))))

behind-most : (l : ℕ) (e : Ending) → length (behind_list l e) ≤ 2
unfolding behind_list
behind-most l untailed = omega arith
behind-most l (tailed n) = tail-most l n.tail

pub instants-most : (pool l : ℕ) (b : Body) → BodyOk pool b → length (instants_of l b) ≤ 4098
unfolding instants_of
instants-most pool l (fixed offset n) h = omega (arith, some-most (candidate l offset start_of_time end_of_time))
instants-most pool l (listed is end e) h =
    omega (arith, length-append (of_list l end is) (behind_list l e), list-most l end is, behind-most l e, h.2)
