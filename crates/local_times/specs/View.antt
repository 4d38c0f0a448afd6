-- What the code's results stand for. The code's way, tied to the instants by `last-is` and `tail-is` (proofs/CountLaws.antt).
use Rattle.base.specs.declared.Refusal.{Refusal}
use Rattle.base.specs.Coded.{Coded}
use Rattle.std.specs.Prelude.{◌≡◌, List, [], ◌∷◌, ℕ, ◌+◌, ◌-◌, ◌≤◌, ◌<◌, eqb, ltb, length, drop, Err, Ok, Result}
use Rattle.base.specs.Pick.{pick}
use Rattle.base.specs.Parsed.{Parsed, got, bad, bind, behind}
use Rattle.base.specs.Moment.{end_of_time}
use Rattle.places.specs.Placed.{Placed, at, no}
use Rattle.recurrence.specs.declared.Tail.{Tail}
use Rattle.recurrence.specs.Tails.{wall_of}
use Rattle.intervals.specs.declared.Interval.{Interval}
use Rattle.intervals.specs.declared.Scan.{Scan}
use Rattle.intervals.specs.Interval.{start_of}
use Rattle.zones.specs.Content.{Zone}
use Rattle.zones.specs.Parse.{after_intervals, parse_intervals, parse_zone}
use Rattle.local_times.specs.Tally.{nothing, tally_of}
use Rattle.local_times.specs.Instants.{candidate, of_list, tail_candidate, instants_of}
use Rattle.local_times.specs.declared.Tally.{Tally}
use Rattle.local_times.specs.declared.LocalScan.{LocalScan}

-- one instant more, later than those before; 0 is none
unfoldable pub counted : Tally → ℕ → Tally
counted a t =
    pick (eqb t 0) a
    (pick (eqb a.count 0) (record { count = 1; earliest = t; latest = t }) (record { count = a.count + 1; earliest = a.earliest; latest = t }))

-- What one walk over the intervals keeps for the local time l: the interval read last, the instants in those before it, and the last start.
unfoldable pub advance : ℕ → LocalScan → Interval → LocalScan
advance l c i =
    record { held = i; tally = counted c.tally (candidate l c.held.wall c.held.start i.start); last = i.start }

unfoldable pub scan_from : ℕ → LocalScan → List Interval → LocalScan
scan_from l c [] = c
scan_from l c (i ∷ is) = scan_from l (advance l c i) is

-- before the first interval: one that holds nothing, since the first start is start of time
abbrev pub unscanned : LocalScan
unscanned = record { held = record { start = 0; name = 0; wall = 0; savings = 0 }; tally = nothing; last = end_of_time }

unfoldable pub scanned : ℕ → List Interval → LocalScan
scanned l is = scan_from l unscanned is

unfoldable pub scan_of : ℕ → Parsed (List Interval) → Parsed LocalScan
scan_of l p = bind p (λ is r. got (scanned l is) r)

abbrev pub of_scan : Coded LocalScan → Placed LocalScan
of_scan (Ok (c, e)) = at c e
of_scan (Err n) = no n

-- the list ends at a moment
unfoldable pub with_last : ℕ → LocalScan → ℕ → Tally
with_last l c end = counted c.tally (candidate l c.held.wall c.held.start end)

-- the tail behind it
unfoldable pub with_tail : ℕ → Tally → Tail → Tally
with_tail l a tail =
    pick (ltb tail.offset (wall_of tail)) (counted (counted a (tail_candidate l (wall_of tail) tail)) (tail_candidate l tail.offset tail))
    (pick (ltb (wall_of tail) tail.offset) (counted (counted a (tail_candidate l tail.offset tail)) (tail_candidate l (wall_of tail) tail))
    (counted a (tail_candidate l tail.offset tail)))

-- A day before a local time: no instant up to there reads as it (`day-before`, proofs/DayLaws.antt). A local time has a day added, so these are two.
abbrev pub day_before : ℕ → ℕ
day_before l = l - 1728000000000

-- where the one interval that a scan for an instant holds has all instants of the list that read as a local time (`held-counts`, proofs/DayLaws.antt)
abbrev pub of_held : Scan → LocalScan
of_held c = record { held = c.held; tally = nothing; last = c.last }

-- the n intervals of a zone s stand at a place
pub record IntervalsAt (pool : ℕ) (s : List ℕ) (n place : ℕ) : Type 0 where
  pub id : ℕ
  pub goes : parse_zone pool s ≡ parse_intervals pool id n (drop place s)
  pub inside : place ≤ length s
  pub some : 0 < n
  pub most : n ≤ 4096

-- The intervals of a zone s end at a place, and c is left of them for the local time l: with any moment behind the last start as their end it gives
-- the tally of their instants.
pub record IntervalsTo (pool l : ℕ) (s : List ℕ) (place : ℕ) (c : LocalScan) : Type 0 where
  pub id : ℕ
  pub list : List Interval
  pub goes : parse_zone pool s ≡ after_intervals pool id list (drop place s)
  pub inside : place ≤ length s
  pub last : c.last ≡ behind start_of end_of_time list
  pub finite : c.last < end_of_time
  pub wall : c.held.wall ≤ 172799999
  pub few : c.tally.count ≤ 4096
  pub counts : (end : ℕ) → c.last < end → with_last l c end ≡ tally_of (of_list l end list)

-- the instants of what was read, or the zone's fault
abbrev pub answer_of : ℕ → Parsed Zone → Result Tally Refusal
answer_of l (got z r) = Ok (tally_of (instants_of l z.body))
answer_of l (bad n) = Err n
