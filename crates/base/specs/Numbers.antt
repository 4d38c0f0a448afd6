-- "The numbers given back": document 01's number, place and values of an answer. "When an answer is an enum, a definition gives this
-- paper's number and values for each of its cases." To be believed.
use Rattle.base.specs.Refusals.{refusal_number}
use Rattle.base.specs.declared.Refusal.{Refusal}
use Rattle.base.specs.Coded.{Coded}
use Rattle.std.specs.Prelude.{ℕ, List, [], ◌∷◌, ℤ, pos, Err, Ok, Result}

pub data GivenBack : Type 0 where
  answering : List ℤ → GivenBack
  refusing : ℕ → ℕ → GivenBack

-- 0 is "answered". "A refusal carries number and place and no name."
abbrev pub number_given : GivenBack → ℕ
number_given (answering vs) = 0
number_given (refusing n p) = n

abbrev pub place_given : GivenBack → ℕ
place_given (answering vs) = 0
place_given (refusing n p) = p

abbrev pub values_given : GivenBack → List ℤ
values_given (answering vs) = vs
values_given (refusing n p) = []

-- "A small code on its own .. gives value and length .. and has place 0"
abbrev pub given_by_read : Coded ℕ → GivenBack
given_by_read (Ok (v, n)) = answering (pos v ∷ pos n ∷ [])
given_by_read (Err k) = refusing (refusal_number k) 0

-- writing a code: its length
abbrev pub given_by_wrote : Result ℕ Refusal → GivenBack
given_by_wrote (Ok n) = answering (pos n ∷ [])
given_by_wrote (Err k) = refusing (refusal_number k) 0
