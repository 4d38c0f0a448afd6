-- DEMAND 3, whole. Assumes nothing.
use mathlib.Core.Path.{◌≡◌, refl}
use mathlib.Core.List.{List}
use Prim.Native.Nat.{ℕ, ◌≤◌}
use lib.IntN.{ℤ}
use lib.ListN.{length}
use Rattle.zones.specs.declared.Edition.{Edition}
use Rattle.frames.specs.Frame.{Field}
use Rattle.questions.specs.Question.{ask, ask_plain}
use Rattle.answers.specs.declared.Mark.{Mark}
use Rattle.answers.specs.declared.Mark.TheVariants.{More}
use Rattle.field_checks.specs.Check.{WellFormed}
use Rattle.demands.specs.Zones.{InRange}
use Rattle.demands.specs.Parts.{Expecting, marked, plain, Standing, There, Missing, PartOf}
use Rattle.demands.proofs.Standing.{standing}
use Rattle.questions.proofs.NameLaws.{standing-name}
use Rattle.demands.proofs.Exact.{zone-there, zone-missing}
use Rattle.demands.proofs.Agree.{asked-or-none}

-- what is shown of the marked question holds of the plain one, which is that question (Ask 1)
there : {ed : Edition} (e : Expecting) {f id : List ℕ} {z : ℤ} {g : Field} {k : ℕ} → There ed marked f id z g k → There ed e f id z g k
there marked t = t
there plain t =
    record { given = t.given; answered = t.answered; before = t.before; from_then = t.from_then; same_name = t.same_name }

missing : {ed : Edition} (e : Expecting) {f id : List ℕ} {z : ℤ} {k : ℕ} → Missing ed marked f id z k → Missing ed e f id z k
missing marked m = m
missing plain m = record { before = m.before; from_then = m.from_then }

-- "Take any bytes, any zone name and any instant, asked with more expected."
pub demand-3 : (ed : Edition) (e : Expecting) (bs more id : List ℕ) (z : ℤ) (mark : Mark) → Standing ed e bs more id z mark
demand-3 ed marked bs more id z mark = record { same = standing bs more id z mark ed; same_name = standing-name bs more id z ed }
demand-3 ed plain bs more id z mark = record { same = standing bs more id z mark ed; same_name = standing-name bs more id z ed }

-- "Take any well-formed file, any first part of it from nothing to the whole, any zone name and an instant in range"
pub demand-3-part : (ed : Edition) (e : Expecting) (f id : List ℕ) (z : ℤ) (k : ℕ) → WellFormed f → InRange z → k ≤ length f → PartOf ed e f id z k
demand-3-part ed e f id z k w h l = record {
  has-or-lacks = asked-or-none f id;
  has = λ g a. there e (zone-there ed f id z g k w a h l);
  lacks = λ n. missing e (zone-missing ed f id z k w n h l);
}

-- ASK 1: the plain question is the marked one with more expected, on any bytes
pub plain-expects : (bs id : List ℕ) (z : ℤ) (ed : Edition) → ask_plain bs id z ed ≡ ask bs id z More ed
plain-expects bs id z ed = refl
