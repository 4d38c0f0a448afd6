-- What a C function gives back, and what it leaves in the output. To be believed: what programs in C are told.
use Rattle.base.specs.Refusals.{refusal_number}
use Rattle.base.specs.declared.Refusal.{Refusal}
use Rattle.std.specs.Prelude.{ℕ, ◌+◌, ◌*◌, List, ◌≡◌, ℤ, Err, Ok, Result}
use Rattle.base.specs.Writing.{Form, wrote, placed}

-- "A refusal carries number and place": both in one result, which is number modulo 256
abbrev pub refusal : Refusal → ℕ → ℕ
refusal k p = refusal_number k + 256 * p

-- number 0, and a length
abbrev pub of_length : ℕ → ℕ
of_length n = 256 * n

-- what a function says: the numbers of its output in their order, or a refusal and its place
pub data Reply : Type 0 where
  numbers : List ℤ → Reply
  refused : Refusal → ℕ → Reply

abbrev pub result_of : Reply → ℕ
result_of (numbers xs) = 0
result_of (refused n p) = refusal n p

-- "Every refusal keeps all lent output as found": d is what was found
abbrev pub output_of : Reply → List ℤ → List ℤ
output_of (numbers xs) d = xs
output_of (refused n p) d = d

-- the result r and the output e at the return, where the output was d and x is to be said
pub record Gives (x : Reply) (d : List ℤ) (r : ℕ) (e : List ℤ) : Type 0 where
  pub result : r ≡ result_of x
  pub output : e ≡ output_of x d

-- what writing a code gives: a length, or a refusal, whose place is 0
abbrev pub written_of : Result ℕ Refusal → ℕ
written_of (Ok n) = of_length n
written_of (Err k) = refusal k 0

-- the result r and the output e at the return, where the output was d and x is to be written
pub record Puts (x : Form) (d : List ℕ) (r : ℕ) (e : List ℕ) : Type 0 where
  pub result : r ≡ written_of (wrote x d)
  pub output : e ≡ placed x d
