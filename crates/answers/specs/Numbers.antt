-- Document 01's number, place and values of an answer to a question. To be believed.
use Rattle.answers.specs.declared.Found.{Found}
use Rattle.base.specs.Refusals.{refusal_number}
use Rattle.base.specs.Coded.{Fault}
use Rattle.std.specs.Prelude.{[], ◌∷◌, pos, Err, Ok, Result}
use Rattle.base.specs.Numbers.{GivenBack, answering, refusing}

-- "An answer carries wall offset, savings, the name as a part of the lent bytes, and the interval's start and end."; after savings, "the standard
-- offset"
abbrev pub given_by_answer : Result Found Fault → GivenBack
given_by_answer (Ok x) = answering (x.wall ∷ x.savings ∷ x.standard ∷ pos x.name ∷ pos x.length ∷ x.start ∷ x.end ∷ [])
given_by_answer (Err (n, p)) = refusing (refusal_number n) p
