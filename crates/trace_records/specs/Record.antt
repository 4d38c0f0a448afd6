-- Ask 14, one record of a trace. To be believed.
use Rattle.answers.specs.declared.Found.{Found}
use Rattle.base.specs.Coded.{Fault}
use Rattle.std.specs.Prelude.{ℕ, Bool, true, false, List, ℤ, Err, Ok, Result}
use Rattle.std.specs.Int.Signed.{lt_z}
use Rattle.base.specs.Pick.{pick}
use Rattle.zones.specs.declared.Edition.TheVariants.{Two}
use Rattle.answers.specs.declared.Mark.TheVariants.{All}
use Rattle.questions.specs.Question.{ask}
use Rattle.traces.specs.Trace.{instant_at, shown_at, name_at}

-- equal integers (same-one and same_self in proofs/ShownLaws.antt)
unfoldable pub same_as : ℤ → ℤ → Bool
same_as a b = pick (lt_z a b) false (pick (lt_z b a) false true)

-- an answer with the wall offset shown; no refusal is one, 14 included
abbrev pub gives : ℤ → Result Found Fault → Bool
gives shown (Ok x) = same_as x.wall shown
gives shown (Err (n, p)) = false

-- "Their questions mean 'this is all', edition 2": the file gives the offset shown
unfoldable pub shows : List ℕ → List ℕ → ℤ → ℤ → Bool
shows f id z shown = gives shown (ask f id z All Two)

-- the record at a place of the trace s, whose names stand at `names`
unfoldable pub agrees : List ℕ → ℕ → List ℕ → ℕ → Bool
agrees f names s at = shows f (name_at names at s) (instant_at at s) (shown_at at s)
