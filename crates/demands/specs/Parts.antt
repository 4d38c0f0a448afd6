-- What demand 3 says: "More bytes never change what we have said." Ask 11: it is "said once, over the edition" ed. To be believed.
use Rattle.base.specs.declared.Refusal.TheVariants.{NotFound}
use Rattle.base.specs.Coded.{Fault}
use Rattle.std.specs.Prelude.{ℕ, ◌≤◌, ◌<◌, ◌≡◌, List, ◌++◌, ◌⊎◌, ℤ, take, Err, Ok, Result}
use Rattle.std.proofs.Math.Option.{some}
use Rattle.zones.specs.declared.Edition.{Edition}
use Rattle.frames.specs.Frame.{Field}
use Rattle.frames.specs.Fields.{FieldOf, fields, first_above}
use Rattle.answers.specs.Answers.{number_of, name_of}
use Rattle.questions.specs.Question.{ask, ask_plain}
use Rattle.answers.specs.declared.Mark.{Mark}
use Rattle.answers.specs.declared.Mark.TheVariants.{More, All}
use Rattle.answers.specs.declared.Found.{Found}
use Rattle.demands.specs.Zones.{Asked, NoZone}

-- "In demand 3, 'with more expected' is a question that means 'more may come'": the marked one with that mark and, by Ask 1, the plain one
pub data Expecting : Type 0 where
  marked : Expecting
  plain : Expecting

abbrev pub ask_more : Expecting → List ℕ → List ℕ → ℤ → Edition → Result Found Fault
ask_more marked bs id z ed = ask bs id z More ed
ask_more plain bs id z ed = ask_plain bs id z ed

-- "If that gives anything but 'not yet', then whatever bytes follow, the bytes so lengthened give the same answer or refusal, asked with
-- more expected or as all there is." "The same answer: every value that it carries is equal, the name byte for byte."
pub record Standing (ed : Edition) (e : Expecting) (bs more id : List ℕ) (z : ℤ) (mark : Mark) : Type 0 where
  pub same : (number_of (ask_more e bs id z ed) ≡ 1 → ⊥) → ask (bs ++ more) id z mark ed ≡ ask_more e bs id z ed
  pub same_name : (x : Found) → ask_more e bs id z ed ≡ Ok x → name_of (bs ++ more) x ≡ name_of bs x

-- "If the file has the asked zone, the part gives 'not yet' exactly when that zone's field isn't all there, and else the answer that the
-- whole file gives as all there is", "the name byte for byte". "A field is all there when the part holds its ID byte, its size and every data
-- byte that the size counts": g is a field of the first k bytes.
pub record There (ed : Edition) (e : Expecting) (f id : List ℕ) (z : ℤ) (g : Field) (k : ℕ) : Type 0 where
  pub given : Found
  pub answered : ask f id z All ed ≡ Ok given
  pub before : (FieldOf (take k f) g → ⊥) → number_of (ask_more e (take k f) id z ed) ≡ 1
  pub from_then : FieldOf (take k f) g → ask_more e (take k f) id z ed ≡ ask f id z All ed
  pub same_name : FieldOf (take k f) g → name_of (take k f) given ≡ name_of f given

-- "If the file has no such zone, the part gives 'not yet' exactly when it holds no first byte of a field with an ID above 1, and else
-- 'no such zone'", at that byte's place
pub record Missing (ed : Edition) (e : Expecting) (f id : List ℕ) (z : ℤ) (k : ℕ) : Type 0 where
  pub before : ((q : ℕ) → first_above 1 (fields f) ≡ some q → k ≤ q) → number_of (ask_more e (take k f) id z ed) ≡ 1
  pub from_then : (q : ℕ) → first_above 1 (fields f) ≡ some q → q < k → ask_more e (take k f) id z ed ≡ Err (NotFound, q)

-- "Take any well-formed file, any first part of it from nothing to the whole, any zone name and an instant in range, and ask the part with
-- more expected": of the first k bytes of f
pub record PartOf (ed : Edition) (e : Expecting) (f id : List ℕ) (z : ℤ) (k : ℕ) : Type 0 where
  pub has-or-lacks : ((g : Field) × Asked f id g) ⊎ NoZone f id
  pub has : (g : Field) → Asked f id g → There ed e f id z g k
  pub lacks : NoZone f id → Missing ed e f id z k
