-- The answers of a zone's intervals one after the other, put in lent room. To be believed.
use Rattle.base.specs.declared.Refusal.TheVariants.{TooShort}
use Rattle.base.specs.Coded.{Fault}
use Rattle.std.specs.Prelude.{ℕ, zero, suc, ◌/◌, List, [], ◌∷◌, ◌≡◌, ℤ, length, Err, Ok, Result}
use Rattle.std.proofs.lemmas.List.Edits.{sets}
use Rattle.zones.specs.declared.Edition.{Edition}
use Rattle.answers.specs.declared.Found.{Found}
use Rattle.found_zones.specs.FoundZone.{ask_zone}
use Rattle.found_zones.specs.declared.FoundZone.{FoundZone}
use Rattle.answer_tables.specs.Table.{rows_of}

-- an answer, and what more gives from its end on
abbrev pub answer_then : Result Found Fault → (ℤ → List Found) → List Found
answer_then (Ok x) more = x ∷ more x.end
answer_then (Err (n, p)) more = []

-- the answers at the tick z, at the end of that one's interval, and so on, k at most: end of time is no tick in range, so none follows an
-- interval that ends there
unfoldable pub answers_from : List ℕ → FoundZone → Edition → ℕ → ℤ → List Found
answers_from f v ed zero z = []
answers_from f v ed (suc k) z = answer_then (ask_zone f v z ed) (λ e. answers_from f v ed k e)

-- those that a table of so many numbers has room for
abbrev pub list_for : List ℕ → FoundZone → Edition → ℤ → List ℤ → List Found
list_for f v ed z d = answers_from f v ed (length d / 7) z

-- "whatever fills lent room gives how many entries": a question's refusals come first, then 15 where there is no room for one row
abbrev pub listed_by : Result Found Fault → ℕ → ℕ → Result ℕ Fault
listed_by (Err (n, p)) room count = Err (n, p)
listed_by (Ok x) zero count = Err (TooShort, 0)
listed_by (Ok x) (suc k) count = Ok count

-- r and e are the result and the table of listing from the tick z on, where the table was d: the rows at its front, "later ones as found"; "every
-- refusal keeps all lent output as found", since it lists none
pub record ListsAnswers (f : List ℕ) (v : FoundZone) (z : ℤ) (ed : Edition) (d : List ℤ) (r : Result ℕ Fault) (e : List ℤ) : Type 0 where
  pub result : r ≡ listed_by (ask_zone f v z ed) (length d / 7) (length (list_for f v ed z d))
  pub rows : e ≡ sets d 0 (rows_of (list_for f v ed z d))
