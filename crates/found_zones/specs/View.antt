-- What the code's results stand for. The code's way, tied to the question by `finds-zone` (proofs/FindLaws.antt).
use Rattle.found_zones.specs.declared.FoundZone.{FoundZone}
use Rattle.answers.specs.declared.Found.{Found}
use Rattle.base.specs.Coded.{Fault}
use Rattle.std.specs.Prelude.{ℕ, List, ◌≡◌, Err, Ok, Result}
use Rattle.base.specs.Moment.{Finite}
use Rattle.zones.specs.declared.Edition.{Edition}
use Rattle.frames.specs.Machine.{Out}
use Rattle.frames.specs.Mapped.{map_out}
use Rattle.answers.specs.Answers.{Pool}
use Rattle.answers.specs.declared.Mark.TheVariants.{All}
use Rattle.locate.specs.Asked.{Held, of_held}
use Rattle.questions.specs.Question.{answer_at, finish}
use Rattle.found_zones.specs.FoundZone.{zone_at, zone_answer}

-- the question at the instant t, where the walk o holds the asked zone
abbrev pub ask_out : Out Pool Held → Edition → ℕ → Result Found Fault
ask_out o ed t = finish All (map_out (of_held (answer_at ed t)) o)

-- r is what the walk o over f comes to
abbrev pub FindsOutTo : List ℕ → Out Pool Held → Result FoundZone Fault → Type 0
FindsOutTo f o (Ok v) = (ed : Edition) (t : ℕ) → Finite t → zone_answer f v ed t (zone_at f v) ≡ ask_out o ed t
FindsOutTo f o (Err (n, p)) = (ed : Edition) (t : ℕ) → ask_out o ed t ≡ Err (n, p)

pub record FindsOut (f : List ℕ) (o : Out Pool Held) (r : Result FoundZone Fault) : Type 0 where
  pub to : FindsOutTo f o r
