-- Document 01's number, place and values of a check and of the version text. To be believed.
use Rattle.base.specs.Refusals.{refusal_number}
use Rattle.base.specs.Coded.{Fault}
use Rattle.std.specs.Prelude.{[], ◌∷◌, pos, Err, Ok, Result, ℕ}
use Rattle.base.specs.Numbers.{GivenBack, answering, refusing}

abbrev pub given_by_verdict : Result (Unit {0}) Fault → GivenBack
given_by_verdict (Ok tt) = answering []
given_by_verdict (Err (n, p)) = refusing (refusal_number n) p

-- the place of the text's first byte, and how many bytes it has
abbrev pub given_by_version_text : Result (ℕ × ℕ) Fault → GivenBack
given_by_version_text (Ok (a, n)) = answering (pos a ∷ pos n ∷ [])
given_by_version_text (Err (n, p)) = refusing (refusal_number n) p
