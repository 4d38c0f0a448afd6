-- What a cursor over a zone's intervals stands for. The code's way, tied to the zone's lookup by `held_same` (proofs/CursorLaws.antt): what a
-- cursor holds is what the lookup gives at each instant of the interval.
use Rattle.base.specs.declared.Refusal.{Refusal}
use Rattle.std.specs.Prelude.{ℕ, ◌+◌, ◌≤◌, ◌<◌, ◌≡◌, List, [], ◌∷◌, length, drop, Err, Ok, Result}
use Rattle.base.specs.Parsed.{Parsed, got, bad, many}
use Rattle.base.specs.Moment.{Finite, end_of_time}
use Rattle.intervals.specs.declared.Interval.{Interval}
use Rattle.intervals.specs.Interval.{parse_interval, start_of}
use Rattle.intervals.specs.Short.{short_interval}
use Rattle.intervals.specs.Sound.{Rising}
use Rattle.tails.specs.Sound.{NamedTailOk}
use Rattle.tails.specs.declared.NamedTail.{NamedTail}
use Rattle.zones.specs.Content.{Ending, untailed, tailed, listed, Zone}
use Rattle.zones.specs.Parse.{parse_intervals, parse_zone}
use Rattle.zones.specs.Sound.{EndOk}
use Rattle.zones.specs.Lookup.{until, nowhere, in_tail, in_body, in_zone}
use Rattle.zones.specs.Intervals.{Holds}
use Rattle.zones.specs.declared.Found.{Found}
use Rattle.zones.specs.declared.ZoneEnd.{ZoneEnd}
use Rattle.zones.specs.declared.ZoneEnd.TheVariants.{Untailed, Tailed, Refused as EndRefused}
use Rattle.cursors.specs.declared.Cursor.{Cursor}

-- the interval that holds the instant t, of a zone that was read
unfoldable pub found_in : ℕ → Parsed Zone → Found
found_in t (got z r) = in_zone t z
found_in t (bad n) = nowhere

abbrev pub found_at : ℕ → List ℕ → ℕ → Found
found_at pool s t = found_in t (parse_zone pool s)

-- where a list ends, by what stands behind it
unfoldable pub list_end : ZoneEnd → ℕ
list_end Untailed = end_of_time
list_end (Tailed n) = n.tail.start
list_end (EndRefused k) = end_of_time

-- what stands behind a list, as it was read
abbrev pub read_of : Ending → ZoneEnd
read_of untailed = Untailed
read_of (tailed n) = Tailed n

-- the zone is the list (i ∷ is), its end and its ending, at every instant from i's start on
pub record Onward (pool : ℕ) (s : List ℕ) (i : Interval) (is : List Interval) (end : ℕ) (e : Ending) : Type 0 where
  pub id : ℕ
  pub on : (t : ℕ) → Finite t → i.start ≤ t → found_at pool s t ≡ in_body t id (listed (i ∷ is) end e)
  pub first : i.start < end_of_time
  pub rising : Rising pool i.start is
  pub end-ok : EndOk pool (i ∷ is) end e

-- the intervals is, behind one that starts at a moment, stand at a place
pub record Stand (pool : ℕ) (s : List ℕ) (start : ℕ) (is : List Interval) (place : ℕ) : Type 0 where
  pub rest : List ℕ
  pub read : many (parse_interval pool) start_of (length is) start (drop place s) ≡ got is rest
  pub inside : place ≤ length s

-- the zone was read to its end
pub record Whole (pool : ℕ) (s : List ℕ) : Type 0 where
  pub zone : Zone
  pub is : parse_zone pool s ≡ got zone []

-- the interval i is in the list, with `left` others behind it
pub record ListAt (pool : ℕ) (s : List ℕ) (i : Interval) (left place : ℕ) (ending : ZoneEnd) : Type 0 where
  pub list : List Interval
  pub end : ℕ
  pub behind : Ending
  pub onward : Onward pool s i list end behind
  pub count : left ≡ length list
  pub stand : Stand pool s i.start list place
  pub ending-is : ending ≡ read_of behind
  pub whole : Whole pool s

-- a cursor at the interval i, behind which one of five bytes stands at a place, and starts at m
abbrev pub usual_cursor : List ℕ → Interval → ℕ → ℕ → ℕ → Cursor
usual_cursor s i left place m = record { held = until i m; left = left; next = short_interval s (place + 2) m; place = place + 5 }

abbrev pub NextTo : ℕ → List ℕ → List Interval → Cursor → Type 0
NextTo pool s [] c = Unit {0}
NextTo pool s (j ∷ js) c = (c.next ≡ j) × Stand pool s j.start js c.place

-- where a list whose next interval is the first of is goes on
unfoldable pub next_start : ℕ → List Interval → ℕ
next_start end [] = end
next_start end (j ∷ js) = j.start

-- c holds a listed interval
pub record InList (pool : ℕ) (s : List ℕ) (ending : ZoneEnd) (c : Cursor) (i : Interval) (is : List Interval) (end : ℕ) (e : Ending) : Type 0 where
  pub onward : Onward pool s i is end e
  pub held-is : c.held ≡ until i (next_start end is)
  pub count : c.left ≡ length is
  pub next-is : NextTo pool s is c
  pub ending-is : ending ≡ read_of e

-- the zone is the tail n from the tail's start on
pub record TailOn (pool : ℕ) (s : List ℕ) (n : NamedTail) : Type 0 where
  pub on : (u : ℕ) → Finite u → n.tail.start ≤ u → found_at pool s u ≡ in_tail u n
  pub named : NamedTailOk pool n.tail.start n

-- c holds the tail's interval at the instant t
pub record InTail (pool : ℕ) (s : List ℕ) (ending : ZoneEnd) (c : Cursor) (n : NamedTail) (t : ℕ) : Type 0 where
  pub tail-on : TailOn pool s n
  pub finite : Finite t
  pub from : n.tail.start ≤ t
  pub held-is : c.held ≡ in_tail t n
  pub count : c.left ≡ 0
  pub ending-is : ending ≡ Tailed n

pub data Position (pool : ℕ) (s : List ℕ) (ending : ZoneEnd) (c : Cursor) : Type 0 where
  in-list : (i : Interval) (is : List Interval) (end : ℕ) (e : Ending) → InList pool s ending c i is end e → Position pool s ending c
  in-tail : (n : NamedTail) (t : ℕ) → InTail pool s ending c n t → Position pool s ending c

-- c is a cursor over the zone with the data s, which has that ending
pub record Points (pool : ℕ) (s : List ℕ) (ending : ZoneEnd) (c : Cursor) : Type 0 where
  pub whole : Whole pool s
  pub position : Position pool s ending c

-- a cursor at the interval that holds the instant t
pub record At (pool : ℕ) (s : List ℕ) (ending : ZoneEnd) (t : ℕ) (c : Cursor) : Type 0 where
  pub points : Points pool s ending c
  pub holds : Holds c.held t

-- the n intervals of a zone s stand at a place
pub record IntervalsAt (pool : ℕ) (s : List ℕ) (n place : ℕ) : Type 0 where
  pub id : ℕ
  pub goes : parse_zone pool s ≡ parse_intervals pool id n (drop place s)
  pub inside : place ≤ length s
  pub some : 0 < n

-- and were read to their end
pub record FirstAt (pool : ℕ) (s : List ℕ) (n place : ℕ) (ending : ZoneEnd) : Type 0 where
  pub id : ℕ
  pub list : List Interval
  pub end : ℕ
  pub behind : Ending
  pub rest : List ℕ
  pub read : many (parse_interval pool) start_of n end_of_time (drop place s) ≡ got list rest
  pub inside : place ≤ length s
  pub some : 0 < n
  pub zone-is : parse_zone pool s ≡ got (record { id = id; body = listed list end behind }) []
  pub ending-is : ending ≡ read_of behind

-- a cursor at the first interval, or the zone's fault
abbrev pub OpenedTo : ℕ → List ℕ → Result (Cursor × ZoneEnd) Refusal → Type 0
OpenedTo pool s (Ok (c, ending)) = Points pool s ending c × (c.held.start ≡ 0)
OpenedTo pool s (Err k) = parse_zone pool s ≡ bad k

pub record OpenedAs (pool : ℕ) (s : List ℕ) (r : Result (Cursor × ZoneEnd) Refusal) : Type 0 where
  pub to : OpenedTo pool s r
