-- What demand 3 says of the named question: "For this question demand 3 holds with that waiting point, and for a key that isn't a zone ID the
-- part from then on gives what the whole file gives, 18 and 12 included". To be believed.
use Rattle.base.specs.declared.Refusal.TheVariants.{NotFound, TooManySteps}
use Rattle.base.specs.Coded.{Fault}
use Rattle.std.specs.Prelude.{ℕ, ◌≤◌, ◌<◌, ◌≡◌, List, [], ◌∷◌, ◌++◌, ◌⊎◌, ℤ, take, Err, Ok, Result}
use Rattle.std.proofs.Math.Option.{some}
use Rattle.base.specs.All.{All}
use Rattle.signed.specs.Instant.{instant_of}
use Rattle.zones.specs.Content.{Zone}
use Rattle.zones.specs.declared.Edition.{Edition}
use Rattle.aliases.specs.Field.{entries_of}
use Rattle.alias_lookup.specs.Lookup.{Named, here, unknown, deep, lookup, most, Leads}
use Rattle.frames.specs.Frame.{Field}
use Rattle.frames.specs.Fields.{FieldOf, fields, first_above}
use Rattle.field_checks.specs.Check.{file_pool}
use Rattle.answers.specs.Answers.{Pool, no_pool, number_of, name_of}
use Rattle.answers.specs.declared.Mark.{Mark}
use Rattle.answers.specs.declared.Mark.TheVariants.{More, All as Whole}
use Rattle.answers.specs.declared.Found.{Found}
use Rattle.questions.specs.Question.{ask, answer_at}
use Rattle.named_fields.specs.Named.{zone_in, seen_of, ask_named}
use Rattle.demands.specs.Zones.{Asked, NoZone}

-- "If that gives anything but 'not yet', then whatever bytes follow, the bytes so lengthened give the same answer or refusal, asked with
-- more expected or as all there is", "the name byte for byte"
pub record StandingNamed (ed : Edition) (bs more id : List ℕ) (z : ℤ) (mark : Mark) : Type 0 where
  pub same : (number_of (ask_named bs id z More ed) ≡ 1 → ⊥) → ask_named (bs ++ more) id z mark ed ≡ ask_named bs id z More ed
  pub same_name : (x : Found) → ask_named bs id z More ed ≡ Ok x → name_of (bs ++ more) x ≡ name_of bs x

-- g is the file's field 3
pub record Aliases (f : List ℕ) (g : Field) : Type 0 where
  pub before : List Field
  pub behind : List Field
  pub splits : fields f ≡ before ++ g ∷ behind
  pub is-aliases : g.id ≡ 3

-- the file has no field 3
abbrev pub NoAliases : List ℕ → Type 0
NoAliases f = All (λ h. h.id ≡ 3 → ⊥) (fields f)

-- "not yet" exactly until the field g is all there, and from then on what the whole file gives as all there is, "the name byte for byte". g is all
-- there when it is a field of the first k bytes.
pub record Until (ed : Edition) (f id : List ℕ) (z : ℤ) (g : Field) (k : ℕ) : Type 0 where
  pub before : (FieldOf (take k f) g → ⊥) → number_of (ask_named (take k f) id z More ed) ≡ 1
  pub from_then : FieldOf (take k f) g → ask_named (take k f) id z More ed ≡ ask_named f id z Whole ed
  pub same_name : FieldOf (take k f) g → (x : Found) → ask_named f id z Whole ed ≡ Ok x → name_of (take k f) x ≡ name_of f x

-- field 0 of a file with these fields
unfoldable pub first_pool : List Field → Pool
first_pool [] = no_pool
first_pool (g ∷ gs) = record { start = g.start; body = g.body }

-- "Places for 18, 19 and a 12 found in field 3 are that field's ID byte"
abbrev pub given_by : Edition → ℕ → ℕ → Pool → Named Zone → Result Found Fault
given_by ed t place p (here b) = Ok (answer_at ed t p b)
given_by ed t place p unknown = Err (NotFound, place)
given_by ed t place p deep = Err (TooManySteps, place)

-- where the name leads in the file f, whose field 3 is g
abbrev pub leads_to : List ℕ → List ℕ → Field → Named Zone
leads_to f id g = lookup (zone_in (seen_of (file_pool (fields f)) (fields f))) (entries_of (file_pool (fields f)) g.body) most id

-- a zone's ID: the zone's field is waited for, and the answer is the old question's
pub record ByZone (ed : Edition) (f id : List ℕ) (z : ℤ) (g : Field) (k : ℕ) : Type 0 where
  pub until : Until ed f id z g k
  pub answer-is : ask_named f id z Whole ed ≡ ask f id z Whole ed

-- no zone's ID, in a file with a field 3: that field is waited for, "and for a key that isn't a zone ID the part from then on gives what the
-- whole file gives, 18 and 12 included"
pub record ByAlias (ed : Edition) (f id : List ℕ) (z : ℤ) (g : Field) (k : ℕ) : Type 0 where
  pub until : Until ed f id z g k
  pub answer-is : ask_named f id z Whole ed ≡ given_by ed (instant_of z) g.place (first_pool (fields f)) (leads_to f id g)

-- an alias that leads to a zone gets the old question's answer to that zone's ID, which at most eight steps lead to
pub record OfTarget (ed : Edition) (f id : List ℕ) (z : ℤ) (g : Field) : Type 0 where
  pub zone : Zone
  pub leads : Leads (zone_in (seen_of (file_pool (fields f)) (fields f))) (entries_of (file_pool (fields f)) g.body) most id zone
  pub number : number_of (ask_named f id z Whole ed) ≡ 0
  pub as-target : ask_named f id z Whole ed ≡ ask f leads.last z Whole ed

-- no zone's ID, in a file without a field 3: "'no such zone' is given once an ID above 3 has begun"
pub record Unnamed (ed : Edition) (f id : List ℕ) (z : ℤ) (k : ℕ) : Type 0 where
  pub before : ((q : ℕ) → first_above 3 (fields f) ≡ some q → k ≤ q) → number_of (ask_named (take k f) id z More ed) ≡ 1
  pub from_then : (q : ℕ) → first_above 3 (fields f) ≡ some q → q < k → ask_named (take k f) id z More ed ≡ Err (NotFound, q)

-- of the first k bytes of a well-formed file f
pub record NamedPart (ed : Edition) (f id : List ℕ) (z : ℤ) (k : ℕ) : Type 0 where
  pub which : ((g : Field) × Asked f id g) ⊎ (NoZone f id × (((g : Field) × Aliases f g) ⊎ NoAliases f))
  pub zone : (g : Field) → Asked f id g → ByZone ed f id z g k
  pub alias : NoZone f id → (g : Field) → Aliases f g → ByAlias ed f id z g k
  pub neither : NoZone f id → NoAliases f → Unnamed ed f id z k
