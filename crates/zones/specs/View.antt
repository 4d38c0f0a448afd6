-- What the readers of a zone give: its front and its end, which readers of every kind share. The code's way: what a whole zone gives is said by
-- Parse.antt and Lookup.antt.
use Rattle.std.specs.Prelude.{ℕ, suc, ◌≤◌, ◌<◌, ◌≡◌, List, [], length, drop}
use Rattle.base.specs.Parsed.{Parsed, got, bad, behind}
use Rattle.base.specs.Moment.{end_of_time}
use Rattle.intervals.specs.Interval.{start_of}
use Rattle.intervals.specs.declared.Interval.{Interval}
use Rattle.zones.specs.Content.{untailed, tailed, FixedName, fixed, listed, Zone}
use Rattle.zones.specs.Parse.{parse_intervals}
use Rattle.zones.specs.Lookup.{fixed_name_of}
use Rattle.zones.specs.declared.ZoneFront.{ZoneFront}
use Rattle.zones.specs.declared.ZoneFront.TheVariants.{Fixed as AllFixed, Listed as Several, Refused as FrontRefused}
use Rattle.zones.specs.declared.ZoneEnd.{ZoneEnd}
use Rattle.zones.specs.declared.ZoneEnd.TheVariants.{Untailed, Tailed as WithTail, Refused as EndRefused}

-- r is what p is up to its intervals, where p reads some bytes s to their end; no more than 4,096 intervals are read. h reads how many transitions
-- there are, and stops at the first
abbrev pub FrontTo : ℕ → List ℕ → Parsed Zone → Parsed ℕ → ZoneFront → Type 0
FrontTo pool s p h (AllFixed id offset n) =
    ((m : FixedName) × (p ≡ got (record { id = id; body = fixed offset m }) []) × (n ≡ fixed_name_of id m)) × (h ≡ got 0 [])
FrontTo pool s p h (Several id n at) =
    ((p ≡ parse_intervals pool id n (drop at s)) × (at ≤ length s) × (0 < n) × (n ≤ 4096)) × (h ≡ got (suc n) (drop at s))
FrontTo pool s p h (FrontRefused k) = p ≡ bad k

pub record FrontOf (pool : ℕ) (s : List ℕ) (p : Parsed Zone) (h : Parsed ℕ) (r : ZoneFront) : Type 0 where
  pub means : FrontTo pool s p h r

-- r is what stands behind intervals of which the last starts at the moment `last`, where f reads it behind any such intervals
abbrev pub EndTo : ℕ → List Interval → Parsed Zone → ZoneEnd → Type 0
EndTo id is p Untailed = p ≡ got (record { id = id; body = listed is end_of_time untailed }) []
EndTo id is p (WithTail n) = (end : ℕ) × (p ≡ got (record { id = id; body = listed is end (tailed n) }) [])
EndTo id is p (EndRefused k) = p ≡ bad k

pub record EndOf (f : ℕ → List Interval → Parsed Zone) (last : ℕ) (r : ZoneEnd) : Type 0 where
  pub means : (id : ℕ) (is : List Interval) → last ≡ behind start_of end_of_time is → EndTo id is (f id is) r
