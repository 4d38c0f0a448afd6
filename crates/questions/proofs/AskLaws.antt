-- The question, by the walk's outcome and the mark. Assumes nothing.
use Rattle.base.specs.declared.Refusal.TheVariants.{OutOfRange}
use Rattle.base.specs.Coded.{Fault}
use Rattle.std.specs.Prelude.{Err, Result}
use mathlib.Core.Path.{◌≡◌, refl, sym, ap, ◌∙◌}
use mathlib.Core.List.{List}
use Prim.Native.Nat.{ℕ}
use lib.IntN.{ℤ}
use borrow.Author.Tests.{eq-eqb, ne_eqb}
use Rattle.signed.specs.Instant.{instant_of}
use Rattle.zones.specs.declared.Edition.{Edition}
use Rattle.frames.specs.Machine.{Out, found, refused, cut, ended, walk}
use Rattle.answers.specs.Answers.{no_pool}
use Rattle.questions.specs.Question.{question, finish, ask}
use Rattle.questions.specs.View.{outcome_of}
use Rattle.answers.specs.Answers.{answer_of}
use Rattle.answers.specs.declared.Mark.{Mark}
use Rattle.answers.specs.declared.Found.{Found}
use Rattle.answers.specs.declared.Outcome.{Outcome}

pub finish-is : {M : Type 0} (mark : Mark) (o : Out M Found) → answer_of mark (outcome_of o) ≡ finish mark o
finish-is mark (found x p) = refl
finish-is mark (refused n p) = refl
finish-is mark (cut p) = refl
finish-is mark (ended m p) = refl

module _ (bs id : List ℕ) (z : ℤ) (mark : Mark) (ed : Edition) (t : ℕ) (e : t ≡ instant_of z) where
  pub ask-outside : t ≡ 0 → ◌≡◌ {A = Result Found Fault} (Err (OutOfRange, 0)) (ask bs id z mark ed)
  unfolding ask
  ask-outside h = rw (eq-eqb (instant_of z) 0 (sym e ∙ h))

  pub ask-inside : (t ≡ 0 → ⊥) → (o : Outcome) → o ≡ outcome_of (walk (question ed id t) no_pool bs) → answer_of mark o ≡ ask bs id z mark ed
  unfolding ask
  ask-inside h o k =
      rw (ne_eqb (instant_of z) 0 (λ f. h (e ∙ f))) (
      ap (answer_of mark) k ∙ finish-is mark (walk (question ed id t) no_pool bs)
      ∙ ap (λ (u : ℕ). finish mark (walk (question ed id u) no_pool bs)) e
      )
