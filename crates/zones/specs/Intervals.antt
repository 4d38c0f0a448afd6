-- The intervals of a zone, with no instant asked. To be believed.
use Rattle.std.specs.Prelude.{ℕ, ◌≤◌, ◌<◌, List, [], ◌∷◌}
use Rattle.recurrence.specs.declared.Interval.{Interval as TailInterval}
use Rattle.recurrence.specs.Tails.{IsInterval}
use Rattle.intervals.specs.declared.Interval.{Interval}
use Rattle.tails.specs.declared.NamedTail.{NamedTail}
use Rattle.zones.specs.Content.{Ending, tailed, FixedName, Body, fixed, listed, Zone}
use Rattle.zones.specs.Lookup.{until, named, always}
use Rattle.zones.specs.declared.Found.{Found}

-- "An interval holds its start and not its end."
pub record Holds (x : Found) (t : ℕ) : Type 0 where
  pub from : x.start ≤ t
  pub to : t < x.end

-- the intervals of a list that starts with i: each lasts until the next start, the last one until the end transition
pub data Listing (end : ℕ) : Interval → List Interval → Found → Type 0 where
  final : (i : Interval) → Listing end i [] (until i end)
  inner : (i j : Interval) (is : List Interval) → Listing end i (j ∷ is) (until i j.start)
  later : (i j : Interval) (is : List Interval) (x : Found) → Listing end j is x → Listing end i (j ∷ is) x

pub data InList (end : ℕ) : List Interval → Found → Type 0 where
  among : (i : Interval) (is : List Interval) (x : Found) → Listing end i is x → InList end (i ∷ is) x

-- behind the list, the intervals of the tail by its yearly rules
pub data InTail (n : NamedTail) : Found → Type 0 where
  by-rules : (y : TailInterval) → IsInterval n.tail y → InTail n (named n y)

-- of a body of the zone with the ID id
pub data InBody (id : ℕ) : Body → Found → Type 0 where
  all-of-time : (offset : ℕ) (n : FixedName) → InBody id (fixed offset n) (always id offset n)
  in-list : (is : List Interval) (end : ℕ) (e : Ending) (x : Found) → InList end is x → InBody id (listed is end e) x
  in-tail : (is : List Interval) (end : ℕ) (n : NamedTail) (x : Found) → InTail n x → InBody id (listed is end (tailed n)) x

-- x is an interval of the zone z
abbrev pub InZone : Zone → Found → Type 0
InZone z x = InBody z.id z.body x
