-- What demand 3 says of a receiver: "Demand 3 for its answers is said between two resets." To be believed.
use Rattle.base.specs.declared.Refusal.TheVariants.{TooShort}
use Rattle.base.specs.Coded.{Fault}
use Rattle.std.specs.Prelude.{ℕ, ◌≡◌, List, ℤ, take, Err, Ok, Result}
use Rattle.zones.specs.declared.Edition.{Edition}
use Rattle.receivers.specs.OnHeld.{on_held}
use Rattle.receivers.specs.Calls.{State, held_in}
use Rattle.answers.specs.Answers.{number_of, name_of}
use Rattle.questions.specs.Question.{ask}
use Rattle.named_fields.specs.Named.{ask_named}
use Rattle.answers.specs.declared.Mark.{Mark}
use Rattle.answers.specs.declared.Mark.TheVariants.{More}
use Rattle.answers.specs.declared.Found.{Found}
use Rattle.demands.specs.Parts.{Expecting, ask_more, PartOf}

-- the marked question, and a question with more expected, on what the receiver of s holds
abbrev pub ask_on : State → List ℕ → ℤ → Mark → Edition → Result Found Fault
ask_on s id z mark ed = on_held (Err (TooShort, 0)) (λ bs. ask bs id z mark ed) s.receiver s.buffer

abbrev pub ask_more_on : Expecting → State → List ℕ → ℤ → Edition → Result Found Fault
ask_more_on e s id z ed = on_held (Err (TooShort, 0)) (λ bs. ask_more e bs id z ed) s.receiver s.buffer

abbrev pub ask_named_on : State → List ℕ → ℤ → Mark → Edition → Result Found Fault
ask_named_on s name z mark ed = on_held (Err (TooShort, 0)) (λ bs. ask_named bs name z mark ed) s.receiver s.buffer

-- what was said of s stands at t: "If that gives anything but 'not yet', then whatever bytes follow, the bytes so lengthened give the same
-- answer or refusal, asked with more expected or as all there is"
pub record StandingOn (ed : Edition) (e : Expecting) (s t : State) (id : List ℕ) (z : ℤ) (mark : Mark) : Type 0 where
  pub same : (number_of (ask_more_on e s id z ed) ≡ 1 → ⊥) → ask_on t id z mark ed ≡ ask_more_on e s id z ed
  pub same_name : (x : Found) → ask_more_on e s id z ed ≡ Ok x → name_of (held_in t) x ≡ name_of (held_in s) x

-- the same of the named question
pub record StandingNamedOn (ed : Edition) (s t : State) (name : List ℕ) (z : ℤ) (mark : Mark) : Type 0 where
  pub same : (number_of (ask_named_on s name z More ed) ≡ 1 → ⊥) → ask_named_on t name z mark ed ≡ ask_named_on s name z More ed
  pub same_name : (x : Found) → ask_named_on s name z More ed ≡ Ok x → name_of (held_in t) x ≡ name_of (held_in s) x

-- the receiver of s answers as the first k bytes of f do, of which demand 3 says when they are told "not yet" and what else
pub record PartOn (ed : Edition) (e : Expecting) (s : State) (f id : List ℕ) (z : ℤ) (k : ℕ) : Type 0 where
  pub answers : ask_more_on e s id z ed ≡ ask_more e (take k f) id z ed
  pub part : PartOf ed e f id z k
