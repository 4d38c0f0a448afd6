-- DEMAND 3, standing answers: "More bytes never change what we have said." Assumes nothing.
use Rattle.base.specs.declared.Refusal.TheVariants.{OutOfRange}
use Rattle.base.specs.Coded.{Fault}
use Rattle.std.specs.Prelude.{Err, Result}
use mathlib.Core.Path.{◌≡◌, refl}
use mathlib.Core.Bool.{Bool, true, false}
use mathlib.Core.List.{List, ◌++◌}
use Prim.Native.Nat.{ℕ}
use lib.IntN.{ℤ}
use lib.Dec.{eqb}
use Rattle.base.specs.Pick.{pick}
use Rattle.base.proofs.Tests.{never}
use Rattle.signed.specs.Instant.{instant_of}
use Rattle.zones.specs.declared.Edition.{Edition}
use Rattle.frames.specs.Machine.{Out, found, refused, cut, ended, final, Job, walk}
use Rattle.frames.proofs.GrowthLaws.{walk-stable}
use Rattle.answers.specs.Answers.{number_of, no_pool}
use Rattle.questions.specs.Question.{question, finish, ask}
use Rattle.answers.specs.declared.Mark.{Mark}
use Rattle.answers.specs.declared.Mark.TheVariants.{More}
use Rattle.answers.specs.declared.Found.{Found}

-- what is not "not yet" is settled
settled : {M : Type 0} (o : Out M Found) → (number_of (finish More o) ≡ 1 → ⊥) → final o ≡ true
settled (found x p) h = refl
settled (refused n p) h = refl
settled (cut p) h = absurd (h refl)
settled (ended m p) h = absurd (h refl)

-- and the mark does not matter then
unmarked : {M : Type 0} (mark : Mark) (o : Out M Found) → final o ≡ true → finish mark o ≡ finish More o
unmarked mark (found x p) h = refl
unmarked mark (refused n p) h = refl
unmarked mark (cut p) h = never h refl
unmarked mark (ended m p) h = never h refl

-- what waits is "not yet"
pub waits : {M : Type 0} (o : Out M Found) → final o ≡ false → number_of (finish More o) ≡ 1
waits (found x p) h = never refl h
waits (refused n p) h = never refl h
waits (cut p) h = refl
waits (ended m p) h = refl

-- of any job that answers as a question does, behind 14
pub standing-job : {M : Type 0} (J : Job M Found) (m : M) (bs more : List ℕ) (mark : Mark) (t : Bool)
    → (number_of (pick t (Err (OutOfRange, 0)) (finish More (walk J m bs))) ≡ 1 → ⊥)
    → pick {A = Result Found Fault} t (Err (OutOfRange, 0)) (finish mark (walk J m (bs ++ more))) ≡ pick t (Err (OutOfRange, 0)) (finish More (walk J m bs))
standing-job J m bs more mark true h = refl
standing-job J m bs more mark false h =
    let s = settled (walk J m bs) h in
    rw (walk-stable J m bs more s) (unmarked mark (walk J m bs) s)

-- "Take any bytes, any zone name and any instant, asked with more expected. If that gives anything but 'not yet', then whatever bytes
-- follow, the bytes so lengthened give the same answer or refusal, asked with more expected or as all there is."
pub standing : (bs more id : List ℕ) (z : ℤ) (mark : Mark) (ed : Edition) → (number_of (ask bs id z More ed) ≡ 1 → ⊥) → ask (bs ++ more) id z mark ed ≡ ask bs id z More ed
unfolding ask
standing bs more id z mark ed = standing-job (question ed id (instant_of z)) no_pool bs more mark (eqb (instant_of z) 0)
