-- What a question gives on two files, places aside. To be believed.
use Rattle.base.specs.declared.Refusal.{Refusal}
use Rattle.base.specs.Coded.{Fault}
use Rattle.std.specs.Prelude.{ℕ, ◌≡◌, List, Err, Ok, Result}
use Rattle.answers.specs.Answers.{name_of}
use Rattle.answers.specs.declared.Found.{Found}

-- "The same answer: every value that it carries is equal, the name byte for byte": x of the file f, y of the file h
pub record SameFound (f h : List ℕ) (x y : Found) : Type 0 where
  pub wall : x.wall ≡ y.wall
  pub savings : x.savings ≡ y.savings
  pub standard : x.standard ≡ y.standard
  pub start : x.start ≡ y.start
  pub end : x.end ≡ y.end
  pub name : name_of f x ≡ name_of h y

-- both files give that answer, or both the refusal with the same number
pub data SameAnswer (f h : List ℕ) : Result Found Fault → Result Found Fault → Type 0 where
  both-answer : {x y : Found} → SameFound f h x y → SameAnswer f h (Ok x) (Ok y)
  both-refuse : {n : Refusal} {p q : ℕ} → SameAnswer f h (Err (n, p)) (Err (n, q))
