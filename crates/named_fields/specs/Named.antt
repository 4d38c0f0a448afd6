-- The named question: "takes a canonical ID or an alias". To be believed.
use Rattle.answers.specs.declared.Found.{Found}
use Rattle.base.specs.declared.Refusal.{Refusal}
use Rattle.base.specs.declared.Refusal.TheVariants.{BadData, NotFound, OutOfRange, TooManySteps}
use Rattle.base.specs.Coded.{Fault}
use Rattle.std.specs.Prelude.{ℕ, ◌+◌, List, [], ◌∷◌, ◌++◌, ℤ, length, get_or, eqb, ltb, Err, Ok, Result}
use Rattle.std.proofs.Math.Option.{Option, none, some}
use Rattle.base.specs.Pick.{pick}
use Rattle.base.specs.Equal.{equal}
use Rattle.base.specs.Parsed.{Parsed, got, bad}
use Rattle.signed.specs.Instant.{instant_of}
use Rattle.texts.specs.Text.{read_text}
use Rattle.pool.specs.Pool.{strings_of}
use Rattle.zones.specs.Content.{Zone}
use Rattle.zones.specs.Parse.{parse_zone}
use Rattle.zones.specs.declared.Edition.{Edition}
use Rattle.aliases.specs.Dictionary.{Dictionary}
use Rattle.aliases.specs.Field.{parse_aliases}
use Rattle.alias_lookup.specs.Lookup.{Named, here, unknown, deep, lookup, most}
use Rattle.frames.specs.Frame.{Field}
use Rattle.frames.specs.Machine.{Content, bad as fault, answer, keep, Job, walk}
use Rattle.answers.specs.Answers.{Pool, no_pool}
use Rattle.answers.specs.declared.Mark.{Mark}
use Rattle.locate.specs.Asked.{says as asked_says}
use Rattle.questions.specs.Question.{answer_at, finish}

-- a zone that was seen, and its ID's bytes
pub record Seen : Type 0 where
  pub id : List ℕ
  pub zone : Zone

-- the first zone with an ID, if there is one
unfoldable pub zone_in : List Seen → List ℕ → Option Zone
zone_in [] x = none
zone_in (z ∷ zs) x = pick (equal z.id x) (some z.zone) (zone_in zs x)

-- what the question remembers: field 0, and the zones in file order
pub record Known : Type 0 where
  pub pool : Pool
  pub zones : List Seen

abbrev pub nothing : Known
nothing = record { pool = no_pool; zones = [] }

abbrev pub seen_in : List (List ℕ) → Parsed Zone → List Seen
seen_in ts (got z r) = record { id = get_or ts z.id []; zone = z } ∷ []
seen_in ts (bad n) = []

-- the zone that a field is, where ts is the pool; none for any other field
unfoldable pub zones_of : List (List ℕ) → Field → List Seen
zones_of ts g = pick (eqb g.id 1) (seen_in ts (parse_zone (length ts) g.body)) []

-- the zones of some fields, in file order
unfoldable pub seen_of : List (List ℕ) → List Field → List Seen
seen_of ts [] = []
seen_of ts (g ∷ gs) = zones_of ts g ++ seen_of ts gs

-- field 0 and the zones as the question by ID has them, so that "a canonical ID wins"; a zone with another ID is remembered
abbrev pub remembered : {A : Type 0} → Known → Field → Content Pool A → Content Known A
remembered k g (fault n) = fault n
remembered k g (answer v) = answer v
remembered k g (keep p) = keep (record { pool = p; zones = k.zones ++ zones_of (strings_of p.body) g })

-- "Field 2 is checked on the way", as the whole-file check does it
abbrev pub text_says : {A : Type 0} → Known → ℕ → Result (ℕ × ℕ) Refusal → Content Known A
text_says k size (Err n) = fault n
text_says k size (Ok (b, n)) = pick (eqb (b + n) size) (keep k) (fault BadData)

-- "Number 18 if the eighth target is again only a key, 12 where a target is unknown", at the field's ID byte as every fault of a field
abbrev pub resolved : {A : Type 0} → (Pool → Zone → A) → Pool → Named Zone → Content Known A
resolved h p (here z) = answer (h p z)
resolved h p unknown = fault NotFound
resolved h p deep = fault TooManySteps

-- field 3: "faults of the field come before 18 and 12"
abbrev pub alias_says : {A : Type 0} → (Pool → Zone → A) → List ℕ → Known → Parsed Dictionary → Content Known A
alias_says h x k (got es r) = resolved h k.pool (lookup (zone_in k.zones) es most x)
alias_says h x k (bad n) = fault n

unfoldable pub says : {A : Type 0} → (Pool → Zone → A) → List ℕ → Known → Field → Content Known A
says h x k g =
    pick (ltb g.id 2) (remembered k g (asked_says h x k.pool g))
    (pick (eqb g.id 2) (text_says k (length g.body) (read_text g.body))
    (alias_says h x k (parse_aliases (strings_of k.pool.body) g.body)))

-- the walk to the zone that x names, of which and the pool h makes the answer: "'no such zone' is given once an ID above 3 has begun or the
-- whole of field 3 lacks it"
abbrev pub naming : {A : Type 0} → (Pool → Zone → A) → List ℕ → Job Known A
naming h x = record { last = 3; content = says h x }

-- the zone that x names, at the signed tick z, under an edition
unfoldable pub ask_named : List ℕ → List ℕ → ℤ → Mark → Edition → Result Found Fault
ask_named bs x z mark ed = pick (eqb (instant_of z) 0) (Err (OutOfRange, 0)) (finish mark (walk (naming (answer_at ed (instant_of z)) x) nothing bs))
