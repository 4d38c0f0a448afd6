-- The instants of a zone that read as a local time, computed in one walk: each interval has one at most, and the tail one for each of its
-- two wall offsets. The code's way, tied to the instants that read so by `instants-list` (proofs/InstantLaws.antt).
use Rattle.std.specs.Prelude.{Bool, List, [], ◌∷◌, ◌++◌, ℕ, ◌-◌, ◌*◌, ltb, leb, eqb}
use Rattle.base.specs.Pick.{pick, both}
use Rattle.base.specs.Moment.{start_of_time, end_of_time, finite}
use Rattle.recurrence.specs.declared.Tail.{Tail}
use Rattle.recurrence.specs.Tails.{wall_of, lookup}
use Rattle.intervals.specs.declared.Interval.{Interval}
use Rattle.zones.specs.Content.{Ending, untailed, tailed, Body, fixed, listed}

-- the instant from a to before e that reads as l at the wall offset w; 0, which is no instant, where there is none
abbrev pub fits : ℕ → ℕ → ℕ → ℕ → Bool
fits l w a e = both (leb (w * 10000) l) (both (finite (l - w * 10000)) (both (leb a (l - w * 10000)) (ltb (l - w * 10000) e)))

unfoldable pub candidate : ℕ → ℕ → ℕ → ℕ → ℕ
candidate l w a e = pick (fits l w a e) (l - w * 10000) 0

-- an instant, or none
abbrev pub some : ℕ → List ℕ
some t = pick (eqb t 0) [] (t ∷ [])

-- of a list that starts with i and ends at a moment
unfoldable pub in_listing : ℕ → ℕ → Interval → List Interval → List ℕ
in_listing l end i [] = some (candidate l i.wall i.start end)
in_listing l end i (j ∷ is) = some (candidate l i.wall i.start j.start) ++ in_listing l end j is

unfoldable pub of_list : ℕ → ℕ → List Interval → List ℕ
of_list l end [] = []
of_list l end (i ∷ is) = in_listing l end i is

-- of the tail, at the wall offset w: the tail's own lookup tells whether that is in force
unfoldable pub in_force_at : ℕ → Tail → ℕ → ℕ
in_force_at w tail t = pick (eqb (lookup tail t).wall w) t 0

unfoldable pub tail_candidate : ℕ → ℕ → Tail → ℕ
tail_candidate l w tail = pick (eqb (candidate l w tail.start end_of_time) 0) 0 (in_force_at w tail (candidate l w tail.start end_of_time))

-- the larger offset gives the earlier instant, and two that are equal give one
unfoldable pub of_tail : ℕ → Tail → List ℕ
of_tail l tail =
    pick (ltb tail.offset (wall_of tail)) (some (tail_candidate l (wall_of tail) tail) ++ some (tail_candidate l tail.offset tail))
    (pick (ltb (wall_of tail) tail.offset) (some (tail_candidate l tail.offset tail) ++ some (tail_candidate l (wall_of tail) tail))
    (some (tail_candidate l tail.offset tail)))

unfoldable pub behind_list : ℕ → Ending → List ℕ
behind_list l untailed = []
behind_list l (tailed n) = of_tail l n.tail

unfoldable pub instants_of : ℕ → Body → List ℕ
instants_of l (fixed offset n) = some (candidate l offset start_of_time end_of_time)
instants_of l (listed is end e) = of_list l end is ++ behind_list l e
