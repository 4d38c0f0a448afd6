-- What the stretches given mean, without going over the instants. To be believed; `difference-means` (proofs/MeansLaws.antt) shows it.
use Rattle.base.specs.Coded.{Fault}
use Rattle.std.specs.Prelude.{◌≡◌, List, ℕ, ◌≤◌, ℤ, length, Err, Ok, Result}
use Rattle.signed.specs.Instant.{instant_of, InRange}
use Rattle.answers.specs.Answers.{name_of}
use Rattle.answers.specs.declared.Found.{Found}
use Rattle.stretches.specs.Stretches.{Stretch}
use Rattle.stretches.specs.Maximal.{Lists}
use Rattle.differences.specs.Difference.{differ_at}

-- "offset, savings or name": all three are the same
pub record SameThree (f : List ℕ) (x : Found) (g : List ℕ) (y : Found) : Type 0 where
  pub wall : x.wall ≡ y.wall
  pub savings : x.savings ≡ y.savings
  pub name : name_of f x ≡ name_of g y

-- n stretches, in a list that had room for them: all maximal runs of instants of the window at which the answers differ, in time order
pub record Stretches (f g id : List ℕ) (first last : ℤ) (room n : ℕ) : Type 0 where
  pub first-in : InRange first
  pub last-in : InRange last
  pub list : List Stretch
  pub lists : Lists (differ_at f g id) (instant_of first) (instant_of last) list
  pub many : length list ≡ n
  pub fits : n ≤ room

-- how large a result's numbers are: no more stretches than there are moments, and a refusal's place fits a result of the C functions
abbrev pub BoundedTo : Result ℕ Fault → Type 0
BoundedTo (Ok n) = n ≤ 3281606784000000000
BoundedTo (Err (n, p)) = p ≤ 4194304

pub record Bounded (r : Result ℕ Fault) : Type 0 where
  pub to : BoundedTo r
