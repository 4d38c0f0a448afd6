-- What the inner functions ask: that each number fits where it goes. The C functions ask nothing. To be believed by
-- none: each is proved where it is asked.
use Rattle.answers.specs.declared.Found.{Found}
use Rattle.base.specs.Coded.{Fault}
use Rattle.std.specs.Prelude.{◌≤◌, ◌<◌, ◌^◌, Err, Ok, Result, ℕ, ℤ}

abbrev pub AnswerTo : Result Found Fault → Type 0
AnswerTo (Ok x) = (x.name < 2 ^ 63) × (x.length < 2 ^ 63)
AnswerTo (Err (n, p)) = p ≤ 4194304

pub record SmallAnswer (a : Result Found Fault) : Type 0 where
  pub to : AnswerTo a

abbrev pub MappingTo : Result (ℕ × ℤ × ℤ) Fault → Type 0
MappingTo (Ok (n, a, b)) = n < 2 ^ 63
MappingTo (Err (n, p)) = p ≤ 4194304

pub record SmallMapping (m : Result (ℕ × ℤ × ℤ) Fault) : Type 0 where
  pub to : MappingTo m
