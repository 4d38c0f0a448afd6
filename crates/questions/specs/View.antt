-- What the code's results stand for. The code's way, tied to the question by `ask-held` (proofs/HeldLaws.antt).
use Rattle.std.specs.Prelude.{ℕ}
use Rattle.zones.specs.declared.Edition.{Edition}
use Rattle.frames.specs.Machine.{Out, found, refused, cut, ended}
use Rattle.frames.specs.Mapped.{map_out}
use Rattle.answers.specs.Answers.{Pool}
use Rattle.answers.specs.declared.Found.{Found}
use Rattle.answers.specs.declared.Outcome.{Outcome}
use Rattle.answers.specs.declared.Outcome.TheVariants.{Answered, Refused, Cut, End}
use Rattle.locate.specs.Asked.{Held, of_held}
use Rattle.questions.specs.Question.{answer_at}

-- an outcome, without what is remembered and without the place behind an answer
abbrev pub outcome_of : {M : Type 0} → Out M Found → Outcome
outcome_of (found x p) = Answered x
outcome_of (refused n p) = Refused n p
outcome_of (cut p) = Cut p
outcome_of (ended m p) = End p

-- the question under an edition at the instant t, where the walk o holds the asked zone
abbrev pub outcome_at : Edition → ℕ → Out Pool Held → Outcome
outcome_at ed t o = outcome_of (map_out (of_held (answer_at ed t)) o)
