-- THE PLACE OF A REFUSAL is one of the bytes, or their end. Assumes nothing.
use Rattle.base.specs.Coded.{Fault}
use Rattle.std.specs.Prelude.{Err, Ok, Result}
use mathlib.Core.Path.{subst⁻¹}
use mathlib.Core.List.{List, [], ◌∷◌}
use Prim.Native.Nat.{ℕ, ◌≤◌}
use native.Mathlib.Omega.{arith}
use lib.Dec.{eqb, leb}
use lib.IntN.{ℤ}
use lib.ListN.{length}
use Rattle.base.specs.Run.{follow}
use Rattle.base.specs.All.{All}
use Rattle.base.proofs.AllLaws.{all_head, all_tail}
use Rattle.base.proofs.Tests.{pick-holds}
use Rattle.signed.specs.Instant.{instant_of}
use Rattle.zones.specs.declared.Edition.{Edition}
use Rattle.frames.specs.Frame.{Field}
use Rattle.frames.specs.Machine.{Out, found, refused, cut, ended, Content, bad, answer, keep, Job, verdict, onward, walk}
use Rattle.frames.specs.Fields.{Ending, refused_at, cut_at, end_at, listing, pass, outcome}
use Rattle.frames.proofs.FieldLaws.{Between, StopsTo, listing-spans}
use Rattle.frames.proofs.WalkLaws.{walk-pass}
use Rattle.field_checks.specs.Check.{TextPlace, nowhere, placed, Memory, start, job, concluded, concludes, conclusion, verdict_of, check_of, text_given, version_of}
use Rattle.field_checks.specs.Numbers.{given_by_verdict, given_by_version_text}
use Rattle.field_checks.specs.declared.Conclusion.{Conclusion}
use Rattle.field_checks.specs.declared.Conclusion.TheVariants.{Refused as Unfit, Bare, WithText}
use Rattle.answers.specs.Answers.{Pool, no_pool}
use Rattle.answers.specs.Numbers.{given_by_answer}
use Rattle.answers.specs.declared.Mark.{Mark}
use Rattle.answers.specs.declared.Found.{Found}
use Rattle.questions.specs.Question.{question, finish, ask}
use Rattle.rewrite.specs.Preferred.{preferred, given, rewrite_of}
use Rattle.rewrite.specs.Numbers.{given_by_rewritten}
use Rattle.demands.specs.Places.{PlacedIn}

abbrev At : {M A : Type 0} → ℕ → Out M A → Type 0
At b (found v p) = Unit {0}
At b (refused n p) = p ≤ b
At b (cut p) = p ≤ b
At b (ended m p) = p ≤ b

record Ends {M A : Type 0} (b : ℕ) (o : Out M A) : Type 0 where
  at : At b o

module _ {M A : Type 0} (J : Job M A) (b : ℕ) where
  by-ending : (e : Ending) (m : M) → StopsTo 0 b e → Ends {M = M} {A = A} b (outcome e m)
  by-ending (refused_at n p) m s = record { at = omega (arith, s.1) }
  by-ending (cut_at p) m s = record { at = s.1 }
  by-ending (end_at p) m s = record { at = omega (arith, s) }

  by-pass : (e : Ending) → StopsTo 0 b e → (gs : List Field) (m : M) → All (Between 0 b) gs → Ends b (follow (pass J.content m gs) (outcome e))
  unfolding pass
  by-pass e s [] m a = by-ending e m s
  by-pass e s (g ∷ gs) m a = go (J.content m g) (λ m'. by-pass e s gs m' (all_tail a))
    where
      go : (x : Content M A) → ((m' : M) → Ends b (follow (pass J.content m' gs) (outcome e)))
          → Ends b (follow (onward (verdict g x) (λ m'. pass J.content m' gs)) (outcome e))
      go (bad n) rec = let k : Between 0 b g = all_head a in record { at = omega (arith, k.some, k.within) }
      go (answer v) rec = record { at = tt }
      go (keep m') rec = rec m'

walk-place : {M A : Type 0} (J : Job M A) (m : M) (bs : List ℕ) → Ends (length bs) (walk J m bs)
walk-place J m bs =
    let s = listing-spans J.last bs in
    subst⁻¹ (Ends (length bs)) (walk-pass J m bs) (by-pass J (length bs) (listing J.last bs).ending s.stops (listing J.last bs).fields m s.inside)

-- the question
pub question-place : (bs id : List ℕ) (z : ℤ) (mark : Mark) (ed : Edition) → PlacedIn bs (given_by_answer (ask bs id z mark ed))
unfolding ask
question-place bs id z mark ed =
    pick-holds (λ (a : Result Found Fault). PlacedIn bs (given_by_answer a)) (eqb (instant_of z) 0)
    (λ e. record { place = omega arith })
    (λ e. done (walk (question ed id (instant_of z)) no_pool bs) (walk-place (question ed id (instant_of z)) no_pool bs))
  where
    done : (o : Out Pool Found) → Ends (length bs) o → PlacedIn bs (given_by_answer (finish mark o))
    done (found x p) h = record { place = omega arith }
    done (refused n p) h = record { place = h.at }
    done (cut p) h = record { place = h.at }
    done (ended m p) h = record { place = h.at }

-- the check, the version text and normalizing
module _ (f : List ℕ) where
  abbrev Concludes : Conclusion → Type 0
  Concludes (Unfit n p) = p ≤ length f
  Concludes (Bare p) = p ≤ length f
  Concludes (WithText a n) = Unit {0}

  record Concluded (x : Conclusion) : Type 0 where
    at : Concludes x

  conclusion-place : Concluded (conclusion f)
  unfolding conclusion concluded
  conclusion-place = go (walk job start f) (walk-place job start f)
    where
      last : (t : TextPlace) (p : ℕ) → p ≤ length f → Concluded (concluded t p)
      last nowhere p l = pick-holds Concluded (eqb p 4) (λ e. record { at = l }) (λ e. record { at = l })
      last (placed a n) p l = pick-holds Concluded (eqb p 4) (λ e. record { at = l }) (λ e. record { at = tt })

      go : (o : Out Memory ⊥) → Ends (length f) o → Concluded (concludes o)
      go (found v p) h = absurd v
      go (refused n p) h = record { at = h.at }
      go (cut p) h = record { at = h.at }
      go (ended m p) h = last m.text p h.at

  pub check-place : PlacedIn f (given_by_verdict (check_of f))
  check-place = go (conclusion f) conclusion-place
    where
      go : (x : Conclusion) → Concluded x → PlacedIn f (given_by_verdict (verdict_of x))
      go (Unfit n p) h = record { place = h.at }
      go (Bare p) h = record { place = omega arith }
      go (WithText a n) h = record { place = omega arith }

  pub version-place : PlacedIn f (given_by_version_text (version_of f))
  version-place = go (conclusion f) conclusion-place
    where
      go : (x : Conclusion) → Concluded x → PlacedIn f (given_by_version_text (text_given x))
      go (Unfit n p) h = record { place = h.at }
      go (Bare p) h = record { place = h.at }
      go (WithText a n) h = record { place = omega arith }

  pub normalize-place : (d : List ℕ) → PlacedIn f (given_by_rewritten (rewrite_of f d))
  unfolding rewrite_of
  normalize-place d = go (check_of f) check-place
    where
      go : (v : Result (Unit {0}) Fault) → PlacedIn f (given_by_verdict v) → PlacedIn f (given_by_rewritten (given v (preferred f) d))
      go (Err (n, p)) h = record { place = h.place }
      go (Ok tt) h =
          pick-holds (λ (r : Result ℕ Fault). PlacedIn f (given_by_rewritten r)) (leb (length (preferred f)) (length d))
          (λ e. record { place = omega arith }) (λ e. record { place = omega arith })
