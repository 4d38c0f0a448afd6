-- The answers of Ask 12, computed: n questions at most. Tied to `Renewed` by `answers-renewed` and `renewed-answers` (proofs/WalkLaws.antt).
use Rattle.base.specs.Coded.{Fault}
use Rattle.std.specs.Prelude.{List, [], ◌∷◌, ℕ, zero, suc, eqb, ℤ, Err, Ok, Result}
use Rattle.base.specs.Pick.{pick}
use Rattle.signed.specs.Instant.{instant_of}
use Rattle.answers.specs.declared.Found.{Found}
use Rattle.renewals.specs.Renewal.{renewal}

-- an answer, and those behind it where its end is an instant
abbrev pub onward : (ℤ → List Found) → Result Found Fault → List Found
onward rest (Ok x) = x ∷ pick (eqb (instant_of (renewal x)) 0) [] (rest (renewal x))
onward rest (Err (n, p)) = []

unfoldable pub answers_from : ℕ → (ℤ → Result Found Fault) → ℤ → List Found
answers_from zero q z = []
answers_from (suc n) q z = onward (answers_from n q) (q z)

-- the end of the last answer
abbrev pub last_end : ℤ → List Found → ℤ
last_end z [] = z
last_end z (x ∷ xs) = last_end x.end xs
