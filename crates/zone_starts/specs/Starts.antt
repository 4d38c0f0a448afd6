-- Ask 14: "one call fills a lent table with one zone's listed interval starts". To be believed.
use Rattle.std.specs.Prelude.{◌≡◌, List, [], ◌∷◌, ◌++◌, leb, ℤ, length, drop}
use Rattle.base.specs.Pick.{pick}
use Rattle.base.specs.Parsed.{Parsed, got, bad}
use Rattle.base.specs.Moment.{start_of_time}
use Rattle.signed.specs.Instant.{ticks_of}
use Rattle.intervals.specs.declared.Interval.{Interval}
use Rattle.zones.specs.Content.{Body, fixed, listed, Zone}
use Rattle.zone_starts.specs.declared.ZoneStarts.{ZoneStarts}
use Rattle.zone_starts.specs.declared.ZoneStarts.TheVariants.{Filled, Short, Refused}

unfoldable pub list_starts : List Interval → List ℤ
list_starts [] = []
list_starts (i ∷ is) = ticks_of i.start ∷ list_starts is

-- "listed interval starts, start of time (all a fixed zone has) as the lowest number"; the tail's start is the end of the last listed interval, and
-- none
unfoldable pub starts_of : Body → List ℤ
starts_of (fixed offset n) = ticks_of start_of_time ∷ []
starts_of (listed is end e) = list_starts is

-- "whatever fills lent room gives how many entries ..", where the table d has room for them
unfoldable pub count_of : List ℤ → List ℤ → ZoneStarts
count_of xs d = pick (leb (length xs) (length d)) (Filled (length xs)) Short

-- ".. later ones as found"; a table that is too short is kept
unfoldable pub table_of : List ℤ → List ℤ → List ℤ
table_of xs d = pick (leb (length xs) (length d)) (xs ++ drop (length xs) d) d

-- of what was read
abbrev pub filled : Parsed Zone → List ℤ → ZoneStarts
filled (got z q) d = count_of (starts_of z.body) d
filled (bad k) d = Refused k

abbrev pub table : Parsed Zone → List ℤ → List ℤ
table (got z q) d = table_of (starts_of z.body) d
table (bad k) d = d

-- both: r and e are the result and the table of filling d
abbrev pub Fills : Parsed Zone → List ℤ → ZoneStarts → List ℤ → Type 0
Fills p d r e = (r ≡ filled p d) × (e ≡ table p d)
