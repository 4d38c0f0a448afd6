-- The whole-file check and the version text. "Built: checking a whole file; .. reading the tzdb version text". "The check and the
-- rewriter take the bytes as all there are." To be believed.
use Rattle.base.specs.declared.Refusal.{Refusal}
use Rattle.base.specs.Coded.{Fault}
use Rattle.base.specs.declared.Refusal.TheVariants.{BadData, CutShort, FirstField, NotFound, SecondZone}
use Rattle.std.specs.Prelude.{ℕ, ◌+◌, ◌≡◌, List, [], ◌∷◌, length, get_or, eqb, Err, Ok, Result}
use Rattle.base.specs.Pick.{pick}
use Rattle.base.specs.Parsed.{Parsed, got, bad as faulty}
use Rattle.texts.specs.Text.{read_text}
use Rattle.pool.specs.Pool.{Pool, parse_pool, strings_of}
use Rattle.zones.specs.Content.{Zone}
use Rattle.zones.specs.Parse.{parse_zone}
use Rattle.locations.specs.Content.{Location, parse_locations}
use Rattle.locations.specs.declared.LocationField.{LocationField}
use Rattle.locations.specs.declared.LocationField.TheVariants.{Zone as Locations, Zone1970 as Locations1970}
use Rattle.ids.specs.Ids.{among}
use Rattle.aliases.specs.Dictionary.{Dictionary}
use Rattle.aliases.specs.Field.{parse_aliases}
use Rattle.frames.specs.Frame.{Field}
use Rattle.frames.specs.Machine.{Out, found, refused, cut, ended, Content, bad, keep, Job, walk}
use Rattle.frames.specs.Fields.{fields}
use Rattle.field_checks.specs.declared.Conclusion.{Conclusion}
use Rattle.field_checks.specs.declared.Conclusion.TheVariants.{Refused as Ill, Bare, WithText}

-- where the version text lies: the place of its first byte, and how many bytes it has
pub data TextPlace : Type 0 where
  nowhere : TextPlace
  placed : ℕ → ℕ → TextPlace

-- what the check remembers of the fields seen: the pool's strings, none before field 0; the zones' IDs, last first; the version text
pub record Memory : Type 0 where
  pub pool : List (List ℕ)
  pub ids : List (List ℕ)
  pub text : TextPlace

abbrev pub start : Memory
start = record { pool = []; ids = []; text = nowhere }

abbrev pub with_pool : Memory → List (List ℕ) → Memory
with_pool m ts = record { pool = ts; ids = m.ids; text = m.text }

abbrev pub with_id : Memory → List ℕ → Memory
with_id m x = record { pool = m.pool; ids = x ∷ m.ids; text = m.text }

abbrev pub with_text : Memory → TextPlace → Memory
with_text m t = record { pool = m.pool; ids = m.ids; text = t }

abbrev pub pool_in : Memory → Pool → Content Memory ⊥
pool_in m (faulty n) = bad n
pool_in m (got ts r) = keep (with_pool m ts)

-- field 0
unfoldable pub pool_kept : Memory → List ℕ → Content Memory ⊥
pool_kept m d = pool_in m (parse_pool d)

-- "a second zone with the same ID bytes" is 13
unfoldable pub new_id : Memory → List ℕ → Content Memory ⊥
new_id m x = pick (among x m.ids) (bad SecondZone) (keep (with_id m x))

-- "9 for leftovers last, 13 after that": the zone's own faults come first
abbrev pub zone_in : Memory → Parsed Zone → Content Memory ⊥
zone_in m (faulty n) = bad n
zone_in m (got z r) = new_id m (get_or m.pool z.id [])

-- a field 1
unfoldable pub zone_kept : Memory → List ℕ → Content Memory ⊥
zone_kept m d = zone_in m (parse_zone (length m.pool) d)

-- "in field 2 (tzdb version) length and bytes stand in place"; data left over is 9
abbrev pub text_in : Memory → ℕ → ℕ → Result (ℕ × ℕ) Refusal → Content Memory ⊥
text_in m a size (Err n) = bad n
text_in m a size (Ok (b, n)) = pick (eqb (b + n) size) (keep (with_text m (placed (a + b) n))) (bad BadData)

-- field 2, whose data d start at the place a
unfoldable pub text_kept : Memory → ℕ → List ℕ → Content Memory ⊥
text_kept m a d = text_in m a (length d) (read_text d)

abbrev pub aliases_in : Memory → Parsed Dictionary → Content Memory ⊥
aliases_in m (faulty n) = bad n
aliases_in m (got es r) = keep m

-- "The whole-file check now gives 7, 8, 9 and 19 for field 3 too"
unfoldable pub aliases_kept : Memory → List ℕ → Content Memory ⊥
aliases_kept m d = aliases_in m (parse_aliases m.pool d)

-- "The whole-file check now reads both fields" of locations; it remembers nothing of them
abbrev pub locations_in : Memory → Parsed (List Location) → Content Memory ⊥
locations_in m (faulty n) = bad n
locations_in m (got ls r) = keep m

-- field 6 or 7
unfoldable pub locations_kept : Memory → LocationField → List ℕ → Content Memory ⊥
locations_kept m field d = locations_in m (parse_locations field (length m.pool) d)

-- the kinds of field that the check tells apart
pub data Kind : Type 0 where
  pool_field : Kind
  zone_field : Kind
  text_field : Kind
  alias_field : Kind
  location_field : LocationField → Kind
  other_field : Kind

-- fields 6 and 7, and any other
abbrev pub later_kind : ℕ → Kind
later_kind i = pick (eqb i 6) (location_field Locations) (pick (eqb i 7) (location_field Locations1970) other_field)

-- field 0, a field 1, "field 2 (tzdb version)", "field 3, the alias dictionary", and those behind
abbrev pub kind_of : ℕ → Kind
kind_of i = pick (eqb i 0) pool_field (pick (eqb i 1) zone_field (pick (eqb i 2) text_field (pick (eqb i 3) alias_field (later_kind i))))

-- a field by its kind, where its data d start at the place a; fields 4 "and up are stepped over by their size", 6 and 7 excepted
abbrev pub content_by : Kind → Memory → ℕ → List ℕ → Content Memory ⊥
content_by pool_field m a d = pool_kept m d
content_by zone_field m a d = zone_kept m d
content_by text_field m a d = text_kept m a d
content_by alias_field m a d = aliases_kept m d
content_by (location_field field) m a d = locations_kept m field d
content_by other_field m a d = keep m

-- a field by its ID
unfoldable pub judged : Memory → ℕ → ℕ → List ℕ → Content Memory ⊥
judged m i a d = content_by (kind_of i) m a d

-- the check goes to every ID, and answers from no field
abbrev pub job : Job Memory ⊥
job = record { last = 255; content = λ m g. judged m g.id g.start g.body }

-- the bytes end with the version, which takes 4 of them, or with a field: 6 where "a whole-file check finds no field"
unfoldable pub concluded : TextPlace → ℕ → Conclusion
concluded nowhere p = pick (eqb p 4) (Ill FirstField p) (Bare p)
concluded (placed a n) p = pick (eqb p 4) (Ill FirstField p) (WithText a n)

-- "cut short: this is all, and the bytes end in the version or in a field" is 2
abbrev pub concludes : Out Memory ⊥ → Conclusion
concludes (found v p) = absurd v
concludes (refused n p) = Ill n p
concludes (cut p) = Ill CutShort p
concludes (ended m p) = concluded m.text p

unfoldable pub conclusion : List ℕ → Conclusion
conclusion f = concludes (walk job start f)

abbrev pub verdict_of : Conclusion → Result (Unit {0}) Fault
verdict_of (Ill n p) = Err (n, p)
verdict_of (Bare p) = Ok tt
verdict_of (WithText a n) = Ok tt

-- the whole-file check: 0, or number and place
abbrev pub check_of : List ℕ → Result (Unit {0}) Fault
check_of f = verdict_of (conclusion f)

-- "Rewriting, and reading the version text, check all first; then 15 or 12"; "for 12 on the version text, the bytes' end"
abbrev pub text_given : Conclusion → Result (ℕ × ℕ) Fault
text_given (Ill n p) = Err (n, p)
text_given (Bare p) = Err (NotFound, p)
text_given (WithText a n) = Ok (a, n)

abbrev pub version_of : List ℕ → Result (ℕ × ℕ) Fault
version_of f = text_given (conclusion f)

-- "A file is well formed when none of 2 to 11 or 13 applies to it as a whole", nor by Ask 5 ("'well formed' narrows with it") 19, nor by Ask 8
-- ("'well formed' excludes 20") 20: every field is kept to the bytes' end, and there is one
pub record WellFormed (f : List ℕ) : Type 0 where
  pub memory : Memory
  pub ends : walk job start f ≡ ended memory (length f)
  pub some-field : fields f ≡ [] → ⊥

-- the pool of a file with these fields: the strings of the first
unfoldable pub file_pool : List Field → List (List ℕ)
file_pool [] = []
file_pool (g ∷ gs) = strings_of g.body

-- "the field of ID 1 whose zone ID has exactly the asked bytes": g is a zone with the ID x, where ts is the pool
pub record HasId (ts : List (List ℕ)) (x : List ℕ) (g : Field) : Type 0 where
  pub zone : Zone
  pub rest : List ℕ
  pub is-zone : g.id ≡ 1
  pub parsed : parse_zone (length ts) g.body ≡ got zone rest
  pub bytes : get_or ts zone.id [] ≡ x
