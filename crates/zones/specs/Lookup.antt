-- The interval of a zone that holds an instant. The code's way, tied to the zone's intervals by `lookup-holds` and `lookup-only`
-- (proofs/PartitionLaws.antt).
use Rattle.base.specs.declared.Refusal.{Refusal}
use Rattle.std.specs.Prelude.{ℕ, List, [], ◌∷◌, ltb, Err, Ok, Result}
use Rattle.base.specs.Pick.{pick}
use Rattle.base.specs.Parsed.{Parsed, got, bad}
use Rattle.base.specs.Moment.{start_of_time, end_of_time}
use Rattle.recurrence.specs.Tails.{lookup}
use Rattle.recurrence.specs.declared.Interval.{Interval as Lookup}
use Rattle.zones.specs.Content.{Ending, untailed, tailed, FixedName, absent, present, Body, fixed, listed, Zone}
use Rattle.zones.specs.Editions.{under}
use Rattle.intervals.specs.declared.Interval.{Interval}
use Rattle.tails.specs.declared.NamedTail.{NamedTail}
use Rattle.zones.specs.declared.Edition.{Edition}
use Rattle.zones.specs.declared.Found.{Found}

-- an offset of zero
abbrev pub zero_offset : ℕ
zero_offset = 86400000

-- a listed interval lasts until the next start, the last one until the end transition
abbrev pub until : Interval → ℕ → Found
until i end = record { wall = i.wall; savings = i.savings; name = i.name; start = i.start; end = end }

-- "An interval holds its start and not its end": the first of i and those behind it whose end is after t
unfoldable pub holding : ℕ → ℕ → Interval → List Interval → Found
holding t end i [] = until i end
holding t end i (j ∷ is) = pick (ltb t j.start) (until i j.start) (holding t end j is)

-- no zone that a parse gives lists no interval (interval count 0 is BadInterval)
abbrev pub nowhere : Found
nowhere = record { wall = zero_offset; savings = zero_offset; name = 0; start = start_of_time; end = end_of_time }

unfoldable pub in_list : ℕ → ℕ → List Interval → Found
in_list t end [] = nowhere
in_list t end (i ∷ is) = holding t end i is

-- the tail's answer, with the name of what is in force
abbrev pub named : NamedTail → Lookup → Found
named n x =
    record { wall = x.wall; savings = x.savings; name = pick x.daylight n.daylight n.standard; start = x.start; end = x.end }

unfoldable pub in_tail : ℕ → NamedTail → Found
in_tail t n = named n (lookup n.tail t)

unfoldable pub behind_list : ℕ → Ending → Found
behind_list t untailed = nowhere
behind_list t (tailed n) = in_tail t n

-- "A fixed zone ending right after its offset is well formed and its name is its ID": the pool string of the zone's own ID number
unfoldable pub fixed_name_of : ℕ → FixedName → ℕ
fixed_name_of id absent = id
fixed_name_of id (present n) = n

-- "Flag 1, fixed: offset, then name; savings 0, all of time"; id is the zone's ID
abbrev pub always : ℕ → ℕ → FixedName → Found
always id offset n = record { wall = offset; savings = zero_offset; name = fixed_name_of id n; start = start_of_time; end = end_of_time }

unfoldable pub in_body : ℕ → ℕ → Body → Found
in_body t id (fixed offset name) = always id offset name
in_body t id (listed is end e) = pick (ltb t end) (in_list t end is) (behind_list t e)

-- the interval of a zone that holds the instant t
abbrev pub in_zone : ℕ → Zone → Found
in_zone t z = in_body t z.id z.body

-- what the check makes of a parse, and the lookup under an edition
abbrev pub verdict_of : Parsed Zone → Result ℕ Refusal
verdict_of (got z r) = Ok z.id
verdict_of (bad n) = Err n

abbrev pub answer_of : Edition → ℕ → Parsed Zone → Result Found Refusal
answer_of ed t (got z r) = Ok (in_zone t (under ed z))
answer_of ed t (bad n) = Err n
