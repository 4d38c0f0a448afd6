-- What the laws say of a transition that is read or written. To be believed.
use Rattle.std.specs.Prelude.{◌≡◌, List, ◌++◌, ℕ, ◌≤◌, ◌<◌, length, drop}
use Rattle.base.specs.Moment.{Moment}
use Rattle.transitions.specs.Transition.{write_moment}

-- a moment m that s gives in n bytes
pub record MomentRead (s : List ℕ) (m n : ℕ) : Type 0 where
  pub is : Moment m
  pub some : 1 ≤ n
  pub size : n ≤ 9
  pub within : n ≤ length s

-- the written form is 1 to 9 bytes
pub record MomentSize (p m : ℕ) : Type 0 where
  pub some : 1 ≤ length (write_moment p m)
  pub most : length (write_moment p m) ≤ 9

-- a moment that reads from n bytes of s: they are its written form, or that is shorter, and they are more than three
pub record Preferred (p : ℕ) (s : List ℕ) (m n : ℕ) : Type 0 where
  pub form : s ≡ write_moment p m ++ drop n s
  pub size : length (write_moment p m) ≡ n

pub record Longer (p m n : ℕ) : Type 0 where
  pub less : length (write_moment p m) < n
  pub long : 3 < n
