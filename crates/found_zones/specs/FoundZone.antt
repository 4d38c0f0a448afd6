-- A zone found once, and the questions on it. To be believed.
use Rattle.base.specs.declared.Refusal.TheVariants.{OutOfRange}
use Rattle.base.specs.Coded.{Fault}
use Rattle.std.specs.Prelude.{ℕ, List, ◌≡◌, ℤ, eqb, leb, Err, Ok, Result}
use Rattle.base.specs.Pick.{pick}
use Rattle.base.specs.Parsed.{Parsed, got, bad}
use Rattle.signed.specs.Instant.{instant_of, InRange}
use Rattle.pool.specs.Index.{room_of}
use Rattle.location_lookup.specs.Location.{lent_part, text_in}
use Rattle.zones.specs.Content.{Zone}
use Rattle.zones.specs.Parse.{parse_zone}
use Rattle.zones.specs.Editions.{under}
use Rattle.zones.specs.Lookup.{in_zone}
use Rattle.zones.specs.declared.Edition.{Edition}
use Rattle.zones.specs.declared.Found.{Found as Interval}
use Rattle.frames.specs.Frame.{largest}
use Rattle.answers.specs.Answers.{answer_by}
use Rattle.answers.specs.declared.Mark.TheVariants.{All}
use Rattle.answers.specs.declared.Found.{Found}
use Rattle.questions.specs.Question.{ask}
use Rattle.found_zones.specs.declared.FoundZone.{FoundZone}

-- the content of the zone at v, by the count of the pool at v; the bytes of a part that does not lie in f are none
abbrev pub zone_at : List ℕ → FoundZone → Parsed Zone
zone_at f v = parse_zone (room_of (lent_part f v.pool v.past)) (lent_part f v.start v.end)

-- the answer of an interval, whose name is a string of the pool at v
abbrev pub answer_in : List ℕ → FoundZone → Interval → Found
answer_in f v x = answer_by (text_in f v.pool v.past x.name).at (text_in f v.pool v.past x.name).len x

-- the place of a zone's own fault is its ID byte; 0 where v has a place past 4,194,304, which no file has
abbrev pub place_in : FoundZone → ℕ
place_in v = pick (leb v.place largest) v.place 0

abbrev pub zone_answer : List ℕ → FoundZone → Edition → ℕ → Parsed Zone → Result Found Fault
zone_answer f v ed t (got z r) = Ok (answer_in f v (in_zone t (under ed z)))
zone_answer f v ed t (bad n) = Err (n, place_in v)

-- what a question on v gives at the signed tick z, whatever v and the bytes f are: 14 out of range, the fault of the zone at v, or the answer.
-- Nothing before the zone is looked at, nor the pool's strings but for the name's place.
unfoldable pub ask_zone : List ℕ → FoundZone → ℤ → Edition → Result Found Fault
ask_zone f v z ed = pick (eqb (instant_of z) 0) (Err (OutOfRange, 0)) (zone_answer f v ed (instant_of z) (zone_at f v))

-- what was found of the zone with the bytes id, said by the question where the bytes are all there is: at every tick, in range or not, a question
-- on the found zone gives what the question gives, and a refusal is the question's at every tick in range
abbrev pub FindsTo : List ℕ → List ℕ → Result FoundZone Fault → Type 0
FindsTo f id (Ok v) = (z : ℤ) (ed : Edition) → ask_zone f v z ed ≡ ask f id z All ed
FindsTo f id (Err (n, p)) = (z : ℤ) (ed : Edition) → InRange z → ask f id z All ed ≡ Err (n, p)

pub record FindsZone (f id : List ℕ) (r : Result FoundZone Fault) : Type 0 where
  pub to : FindsTo f id r
