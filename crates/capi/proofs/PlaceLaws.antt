-- The place of a refusal is at most 4,194,304, so that number and place fit one result. Assumes nothing.
use Rattle.base.specs.declared.Refusal.{Refusal}
use Rattle.base.specs.Coded.{Fault}
use Rattle.std.specs.Prelude.{Err, Ok, Result}
use mathlib.Core.Path.{◌≡◌, subst, subst⁻¹}
use mathlib.Core.List.{List}
use Prim.Native.Nat.{ℕ, ◌≤◌}
use lib.Dec.{eqb}
use Rattle.base.proofs.Tests.{pick-holds}
use Rattle.frames.specs.Machine.{Out, found, refused, cut, ended, walk}
use Rattle.frames.proofs.NearLaws.{Near, walk-near}
use Rattle.field_checks.specs.Check.{TextPlace, nowhere, placed, Memory, start, job, concluded, concludes, conclusion, verdict_of, check_of, text_given, version_of}
use Rattle.field_checks.specs.declared.Conclusion.{Conclusion}
use Rattle.field_checks.specs.declared.Conclusion.TheVariants.{Refused as Ill, Bare, WithText}

-- the check
abbrev ConclusionTo : Conclusion → Type 0
ConclusionTo (Ill n p) = p ≤ 4194304
ConclusionTo (Bare p) = p ≤ 4194304
ConclusionTo (WithText a n) = Unit {0}

record NearConclusion (x : Conclusion) : Type 0 where
  to : ConclusionTo x

concluded-near : (t : TextPlace) (p : ℕ) → p ≤ 4194304 → NearConclusion (concluded t p)
unfolding concluded
concluded-near nowhere p l = pick-holds NearConclusion (eqb p 4) (λ e. record { to = l }) (λ e. record { to = l })
concluded-near (placed a n) p l = pick-holds NearConclusion (eqb p 4) (λ e. record { to = l }) (λ e. record { to = tt })

concludes-near : (o : Out Memory ⊥) → Near o → NearConclusion (concludes o)
concludes-near (found v p) n = absurd v
concludes-near (refused k p) n = record { to = n.to }
concludes-near (cut p) n = record { to = n.to }
concludes-near (ended m p) n = concluded-near m.text p n.to

conclusion-near : (f : List ℕ) → NearConclusion (conclusion f)
unfolding conclusion
conclusion-near f = concludes-near (walk job start f) (walk-near job start f)

abbrev VerdictTo : Result (Unit {0}) Fault → Type 0
VerdictTo (Ok tt) = Unit {0}
VerdictTo (Err (n, p)) = p ≤ 4194304

pub record NearVerdict (v : Result (Unit {0}) Fault) : Type 0 where
  pub to : VerdictTo v

verdict-near : (x : Conclusion) → NearConclusion x → NearVerdict (verdict_of x)
verdict-near (Ill n p) h = record { to = h.to }
verdict-near (Bare p) h = record { to = tt }
verdict-near (WithText a n) h = record { to = tt }

pub check-near : (f : List ℕ) (v : Result (Unit {0}) Fault) → v ≡ check_of f → NearVerdict v
check-near f v e = subst⁻¹ NearVerdict e (verdict-near (conclusion f) (conclusion-near f))

abbrev TextTo : Result (ℕ × ℕ) Fault → Type 0
TextTo (Ok (a, n)) = Unit {0}
TextTo (Err (n, p)) = p ≤ 4194304

record NearText (t : Result (ℕ × ℕ) Fault) : Type 0 where
  to : TextTo t

given-near : (x : Conclusion) → NearConclusion x → NearText (text_given x)
given-near (Ill n p) h = record { to = h.to }
given-near (Bare p) h = record { to = h.to }
given-near (WithText a n) h = record { to = tt }

pub version-near : (f : List ℕ) (n : Refusal) (p : ℕ) → version_of f ≡ Err (n, p) → p ≤ 4194304
version-near f n p e = (subst NearText e (given-near (conclusion f) (conclusion-near f))).to
