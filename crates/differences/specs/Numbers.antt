-- Document 01's number, place and values of a difference. To be believed.
use Rattle.base.specs.Refusals.{refusal_number}
use Rattle.base.specs.Coded.{Fault}
use Rattle.std.specs.Prelude.{[], ◌∷◌, pos, Err, Ok, Result, ℕ}
use Rattle.base.specs.Numbers.{GivenBack, answering, refusing}

-- how many stretches the list has then
abbrev pub given_by_listing : Result ℕ Fault → GivenBack
given_by_listing (Ok n) = answering (pos n ∷ [])
given_by_listing (Err (n, p)) = refusing (refusal_number n) p
