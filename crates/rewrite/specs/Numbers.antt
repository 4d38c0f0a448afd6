-- Document 01's number, place and values of a rewrite. To be believed.
use Rattle.base.specs.Refusals.{refusal_number}
use Rattle.base.specs.Coded.{Fault}
use Rattle.std.specs.Prelude.{[], ◌∷◌, pos, Err, Ok, Result, ℕ}
use Rattle.base.specs.Numbers.{GivenBack, answering, refusing}

-- "A rewrite gives its length"
abbrev pub given_by_rewritten : Result ℕ Fault → GivenBack
given_by_rewritten (Ok n) = answering (pos n ∷ [])
given_by_rewritten (Err (n, p)) = refusing (refusal_number n) p
