-- The question that a line of the program asks: 01, "One whole file". To be believed.
use Rattle.answers.specs.declared.Found.{Found}
use Rattle.base.specs.Coded.{Fault}
use Rattle.std.specs.Prelude.{ℕ, List, ℤ, Result}
use Rattle.zones.specs.declared.Edition.TheVariants.{Two}
use Rattle.questions.specs.Question.{ask, ask_plain}
use Rattle.answers.specs.declared.Mark.TheVariants as mark
use Rattle.lines.specs.declared.Kind.{Kind}
use Rattle.lines.specs.declared.Kind.TheVariants.{Plain, Part, All}

-- an unmarked line asks the plain question, `part` says "more may come" and `all` "this is all"; Ask 11: "the program's lines mean 2"
unfoldable pub asked_by : List ℕ → List ℕ → ℤ → Kind → Result Found Fault
asked_by s zone t Plain = ask_plain s zone t Two
asked_by s zone t Part = ask s zone t mark.More Two
asked_by s zone t All = ask s zone t mark.All Two
