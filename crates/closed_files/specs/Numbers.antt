-- The number, place and values of closing up the pool. To be believed.
use Rattle.base.specs.Refusals.{refusal_number}
use Rattle.base.specs.Coded.{Fault}
use Rattle.std.specs.Prelude.{[], ◌∷◌, pos, Err, Ok, Result, ℕ}
use Rattle.base.specs.Numbers.{GivenBack, answering, refusing}

abbrev pub given_by_closed : Result ℕ Fault → GivenBack
given_by_closed (Ok n) = answering (pos n ∷ [])
given_by_closed (Err (n, p)) = refusing (refusal_number n) p
