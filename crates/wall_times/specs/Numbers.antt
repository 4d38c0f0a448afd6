-- Document 01's number, place and values of a mapping; document 02 adds 17. To be believed.
use Rattle.base.specs.Refusals.{refusal_number}
use Rattle.base.specs.Coded.{Fault}
use Rattle.std.specs.Prelude.{[], ◌∷◌, pos, Err, Ok, Result, ℕ, ℤ}
use Rattle.base.specs.Numbers.{GivenBack, answering, refusing}

-- "how many instants in range read that way, with the earliest and the latest"
abbrev pub given_by_mapping : Result (ℕ × ℤ × ℤ) Fault → GivenBack
given_by_mapping (Ok (n, a, b)) = answering (pos n ∷ a ∷ b ∷ [])
given_by_mapping (Err (n, p)) = refusing (refusal_number n) p
