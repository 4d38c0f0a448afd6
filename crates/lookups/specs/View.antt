-- What one walk over a zone keeps for an instant. The code's way, tied to the answer by `answer-is` (proofs/LookupLaws.antt).
use Rattle.base.specs.declared.Refusal.{Refusal}
use Rattle.std.specs.Prelude.{ℕ, Bool, ltb, Err, Ok, Result}
use Rattle.base.specs.Pick.{pick}
use Rattle.base.specs.Parsed.{Parsed, got, bad}
use Rattle.base.specs.Moment.{end_of_time}
use Rattle.intervals.specs.Scan.{scanned}
use Rattle.intervals.specs.declared.Scan.{Scan}
use Rattle.zones.specs.Content.{untailed, tailed, Body, fixed, listed, Zone}
use Rattle.zones.specs.Lookup.{until, fixed_name_of}
use Rattle.zones.specs.declared.Edition.{Edition}
use Rattle.zones.specs.declared.Edition.TheVariants.{One, Two}
use Rattle.zones.specs.declared.Found.{Found}
use Rattle.lookups.specs.declared.ZoneRead.{ZoneRead}
use Rattle.lookups.specs.declared.ZoneRead.TheVariants.{Fixed, Listed, Tailed, Refused as ZoneRefused}

-- the interval that a scan holds, up to the first start after the instant, or else to the end of the list
unfoldable pub held_until : Scan → ℕ → Found
held_until c end = until c.held (pick (ltb c.end end_of_time) c.end end)

-- what one walk over a zone keeps for the instant t; form says whether its transitions are in the writer's form
abbrev pub body_read : ℕ → Bool → ℕ → Body → ZoneRead
body_read t form id (fixed offset n) = Fixed id offset (fixed_name_of id n) form
body_read t form id (listed is end untailed) = Listed id (scanned t is) form
body_read t form id (listed is end (tailed n)) = Tailed id (scanned t is) n form

unfoldable pub read_of : ℕ → Bool → Parsed Zone → ZoneRead
read_of t form (got z r) = body_read t form z.id z.body
read_of t form (bad n) = ZoneRefused n

-- a zone's check, with its form
abbrev pub form_of : Bool → Parsed Zone → Result (ℕ × Bool) Refusal
form_of form (got z r) = Ok (z.id, form)
form_of form (bad n) = Err n

-- the name of a fixed zone under an edition, from the ID and the name that the walk keeps
abbrev pub fixed_name : Edition → ℕ → ℕ → ℕ
fixed_name One id n = id
fixed_name Two id n = n
