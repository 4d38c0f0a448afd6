-- The named question over an older dictionary: "An older one, lent whole, stands for field 3 of a whole file". The lookup is the one that field 3
-- has (alias_lookup/specs/Lookup.antt), so that its rule is "shown once over both". To be believed.
use Rattle.base.specs.declared.Refusal.TheVariants.{NotFound, OutOfRange, TooManySteps}
use Rattle.base.specs.Coded.{Fault}
use Rattle.std.specs.Prelude.{ℕ, List, ℤ, eqb, Err, Ok, Result}
use Rattle.std.proofs.Math.Option.{Option, none, some}
use Rattle.base.specs.Pick.{pick}
use Rattle.base.specs.Parsed.{Parsed, got, bad}
use Rattle.signed.specs.Instant.{instant_of}
use Rattle.aliases.specs.Dictionary.{Dictionary}
use Rattle.alias_lookup.specs.Lookup.{Named, here, unknown, deep, lookup, most}
use Rattle.old_dictionaries.specs.OldDictionary.{parse_old_dictionary}
use Rattle.frames.specs.Machine.{Out, found, refused, cut, ended, walk}
use Rattle.zones.specs.declared.Edition.{Edition}
use Rattle.field_checks.specs.Check.{check_of}
use Rattle.answers.specs.Answers.{no_pool}
use Rattle.answers.specs.declared.Found.{Found}
use Rattle.questions.specs.Question.{question}

abbrev pub answer_in : {M : Type 0} → Out M Found → Option Found
answer_in (found v p) = some v
answer_in (refused n p) = none
answer_in (cut p) = none
answer_in (ended m p) = none

-- what the question by ID answers under an edition at the instant t for the ID y, if the bytes bs have a zone with it
abbrev pub zone_at : Edition → List ℕ → ℕ → List ℕ → Option Found
zone_at ed bs t y = answer_in (walk (question ed y t) no_pool bs)

-- "Number 18 if the eighth target is again only a key, 12 where a target is unknown"; "places in it are 0"
abbrev pub resolved : Named Found → Result Found Fault
resolved (here v) = Ok v
resolved unknown = Err (NotFound, 0)
resolved deep = Err (TooManySteps, 0)

-- "faults of the field come before 18 and 12": all of the older one is read first; "what follows it is ignored"
abbrev pub older_says : (List ℕ → Option Found) → List ℕ → Parsed Dictionary → Result Found Fault
older_says zone x (got es r) = resolved (lookup zone es most x)
older_says zone x (bad n) = Err (n, 0)

-- "a zone ID is answered without reading the older one"
abbrev pub zone_first : Option Found → Result Found Fault → Result Found Fault
zone_first (some v) a = Ok v
zone_first none a = a

-- "that file's check": with it the file's "own field 3 is checked but not used"
abbrev pub check_first : Result (Unit {0}) Fault → Result Found Fault → Result Found Fault
check_first (Ok tt) a = a
check_first (Err (n, p)) a = Err (n, p)

-- the zone of the file bs that x names, by its ID or over the aliases of the older dictionary ds, at the signed tick z, under an edition: "14 and
-- that file's check come first"
unfoldable pub ask_named_old : List ℕ → List ℕ → List ℕ → ℤ → Edition → Result Found Fault
ask_named_old bs ds x z ed =
    pick (eqb (instant_of z) 0) (Err (OutOfRange, 0))
    (check_first (check_of bs) (zone_first (zone_at ed bs (instant_of z) x) (older_says (zone_at ed bs (instant_of z)) x (parse_old_dictionary ds))))
