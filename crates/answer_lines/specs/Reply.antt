-- The lines that the program writes. To be believed.
use Rattle.std.specs.Prelude.{ℕ, List, [], ◌∷◌, ◌++◌, ℤ}
use Rattle.answer_lines.specs.Decimal.{decimal, signed}

-- "`0 0 0 UTC` and a line feed (number, offset, savings, name)", and by Ask 7 the standard offset "after savings"; the name's bytes are written as
-- they are
unfoldable pub answer_line : ℤ → ℤ → ℤ → List ℕ → List ℕ
answer_line wall savings standard name =
    decimal 0 ++ 32 ∷ signed wall ++ 32 ∷ signed savings ++ 32 ∷ signed standard ++ 32 ∷ name ++ 10 ∷ []

-- "a refusal writes number and place"
unfoldable pub refusal_line : ℕ → ℕ → List ℕ
refusal_line number place = decimal number ++ 32 ∷ decimal place ++ 10 ∷ []
