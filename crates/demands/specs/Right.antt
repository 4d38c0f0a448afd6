-- What demand 2 says to a reader: "On a well-formed file each instant from year 1 to year 9999 falls in exactly one interval of each zone,
-- and the offset, savings, name and bounds given are those of the published format and its yearly rules." The intervals of a zone are a
-- definition on its content (`InZone`), not by way of the lookup. By Ask 7 the standard offset is one of the values; by Ask 11 it is
-- "said once, over the edition". To be believed.
use Rattle.std.specs.Prelude.{ℕ, ◌≡◌, List, [], ℤ, pos, neg_ℤ, ◌-ℤ◌, ◌<ℤ◌, length, get_or, Ok}
use Rattle.base.specs.Parsed.{got}
use Rattle.signed.specs.Instant.{instant_of, ticks_of}
use Rattle.signed.specs.OffsetSum.{milliseconds_of}
use Rattle.intervals.specs.Interval.{standard_sum}
use Rattle.zones.specs.Content.{Zone}
use Rattle.zones.specs.Parse.{parse_zone}
use Rattle.zones.specs.Editions.{under}
use Rattle.zones.specs.Intervals.{Holds, InZone}
use Rattle.zones.specs.declared.Edition.{Edition}
use Rattle.zones.specs.declared.Found.{Found as Interval}
use Rattle.frames.specs.Frame.{Field}
use Rattle.frames.specs.Fields.{fields}
use Rattle.answers.specs.Answers.{number_of, name_of}
use Rattle.questions.specs.Question.{ask, ask_plain}
use Rattle.answers.specs.declared.Mark.{Mark}
use Rattle.answers.specs.declared.Found.{Found}
use Rattle.field_checks.specs.Check.{file_pool}
use Rattle.demands.specs.Zones.{InRange}

-- "the standard offset, wall minus savings", inside "the open range of 24 hours either way"
pub record StandardRight (x : Found) : Type 0 where
  pub difference : x.standard ≡ x.wall -ℤ x.savings
  pub above : neg_ℤ (pos 86400000) <ℤ x.standard
  pub below : x.standard <ℤ pos 86400000

-- what is right of the answer at z of the file f to the ID bytes id, which are those of its zone w: of the plain question, and of the
-- marked one whatever the mark, under the edition ed
pub record Right (ed : Edition) (f id : List ℕ) (z : ℤ) (w : Zone) : Type 0 where
  pub number_is : number_of (ask_plain f id z ed) ≡ 0
  pub given : Found
  pub plain : ask_plain f id z ed ≡ Ok given
  pub marked : (mark : Mark) → ask f id z mark ed ≡ Ok given
  -- it is of one interval of the zone, which holds the instant, and no other does
  pub interval : Interval
  pub of-zone : InZone (under ed w) interval
  pub holds : Holds interval (instant_of z)
  pub only : (x : Interval) → InZone (under ed w) x → Holds x (instant_of z) → x ≡ interval
  -- and has its values
  pub wall-is : given.wall ≡ milliseconds_of interval.wall
  pub savings-is : given.savings ≡ milliseconds_of interval.savings
  pub standard-is : given.standard ≡ milliseconds_of (standard_sum interval.wall interval.savings)
  pub start_is : given.start ≡ ticks_of interval.start
  pub end_is : given.end ≡ ticks_of interval.end
  pub named : name_of f given ≡ get_or (file_pool (fields f)) interval.name []
  pub standard : StandardRight given

-- the field g of f, in full, is a zone, and asked by its own ID bytes the file answers right at every instant in range, under either
-- edition
pub record Answered (f : List ℕ) (g : Field) : Type 0 where
  pub zone : Zone
  pub parsed : parse_zone (length (file_pool (fields f))) g.body ≡ got zone []
  pub right : (ed : Edition) (z : ℤ) → InRange z → Right ed f (get_or (file_pool (fields f)) zone.id []) z zone
