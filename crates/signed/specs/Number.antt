-- The answer of a reader whose value is signed. To be believed.
use Rattle.base.specs.Refusals.{refusal_number}
use Rattle.base.specs.Coded.{Coded}
use Rattle.std.specs.Prelude.{ℕ, [], ◌∷◌, ℤ, pos, Err, Ok}
use Rattle.base.specs.Numbers.{GivenBack, answering, refusing}

-- the same reading, with the integer f v for the value v
abbrev pub number : (ℕ → ℤ) → Coded ℕ → Coded ℤ
number f (Ok (v, n)) = Ok (f v, n)
number f (Err k) = Err k

-- document 01's number, place and values of it
abbrev pub given_by_number : Coded ℤ → GivenBack
given_by_number (Ok (z, n)) = answering (z ∷ pos n ∷ [])
given_by_number (Err k) = refusing (refusal_number k) 0
