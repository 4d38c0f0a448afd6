-- Asking one zone at one instant. To be believed.
use Rattle.base.specs.declared.Refusal.TheVariants.{CutShort, NotFound, OutOfRange}
use Rattle.base.specs.Coded.{Fault}
use Rattle.std.specs.Prelude.{ℕ, List, ℤ, eqb, Err, Ok, Result}
use Rattle.base.specs.Pick.{pick}
use Rattle.signed.specs.Instant.{instant_of}
use Rattle.zones.specs.Content.{Zone}
use Rattle.zones.specs.Editions.{under}
use Rattle.zones.specs.Lookup.{in_zone}
use Rattle.zones.specs.declared.Edition.{Edition}
use Rattle.frames.specs.Machine.{Out, found, refused, cut, ended, Job, walk}
use Rattle.answers.specs.Answers.{Pool, no_pool, answered, waiting}
use Rattle.locate.specs.Asked.{asking}
use Rattle.answers.specs.declared.Mark.{Mark}
use Rattle.answers.specs.declared.Mark.TheVariants.{More}
use Rattle.answers.specs.declared.Found.{Found}

-- what a question makes of the asked zone under an edition: the interval that holds the instant t
abbrev pub answer_at : Edition → ℕ → Pool → Zone → Found
answer_at ed t p z = answered p (in_zone t (under ed z))

abbrev pub question : Edition → List ℕ → ℕ → Job Pool Found
question ed id t = asking (answer_at ed t) id

abbrev pub finish : {M : Type 0} → Mark → Out M Found → Result Found Fault
finish mark (found x p) = Ok x
finish mark (refused n p) = Err (n, p)
finish mark (cut p) = Err (waiting mark CutShort, p)
finish mark (ended m p) = Err (waiting mark NotFound, p)

-- the zone with the bytes id at the signed tick z: "Order: 14; version; then fields in file order". Ask 11: "Questions take an edition, 1 or 2".
unfoldable pub ask : List ℕ → List ℕ → ℤ → Mark → Edition → Result Found Fault
ask bs id z mark ed = pick (eqb (instant_of z) 0) (Err (OutOfRange, 0)) (finish mark (walk (question ed id (instant_of z)) no_pool bs))

-- Ask 1: "From now on the plain question means 'more may come'."
abbrev pub plain_mark : Mark
plain_mark = More

abbrev pub ask_plain : List ℕ → List ℕ → ℤ → Edition → Result Found Fault
ask_plain bs id z ed = ask bs id z plain_mark ed
