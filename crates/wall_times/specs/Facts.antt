-- What the laws say of a mapping. To be believed.
use Rattle.base.specs.Coded.{Fault}
use Rattle.std.specs.Prelude.{◌≡◌, List, ℕ, ◌≤◌, ℤ, ◌≤ℤ◌, length, Err, Ok, Result}
use Rattle.signed.specs.Instant.{InRange}
use Rattle.answers.specs.declared.Found.{Found}
use Rattle.wall_times.specs.WallTime.{ask_all, local_time, ReadsAs, Among, Ascending}

-- a count of n with the earliest a and the latest b: at n instants, from a to b, the question's wall offset gives the local time back, and at
-- no other
pub record GivesBack (f id : List ℕ) (local : ℤ) (n : ℕ) (a b : ℤ) : Type 0 where
  pub instants : List ℤ
  pub rising : Ascending instants
  pub many : length instants ≡ n
  pub gives : (z : ℤ) → Among z instants → ReadsAs f id local z
  pub no_other : (z : ℤ) (x : Found) → InRange z → ask_all f id z ≡ Ok x → local_time z x.wall ≡ local → Among z instants
  pub earliest : Among a instants
  pub least : (z : ℤ) → Among z instants → a ≤ℤ z
  pub latest : Among b instants
  pub greatest : (z : ℤ) → Among z instants → z ≤ℤ b

-- each listed interval has one instant at most and a tail two; a refusal's place fits a result of the C functions
abbrev pub BoundedTo : Result (ℕ × ℤ × ℤ) Fault → Type 0
BoundedTo (Ok (n, a, b)) = n ≤ 4098
BoundedTo (Err (n, p)) = p ≤ 4194304

pub record Bounded (r : Result (ℕ × ℤ × ℤ) Fault) : Type 0 where
  pub to : BoundedTo r
