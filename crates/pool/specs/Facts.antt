-- What the laws say of a pool that is taken or refused. To be believed.
use Rattle.base.specs.declared.Refusal.{Refusal}
use Rattle.std.specs.Prelude.{◌≡◌, List, [], ℕ, ◌≤◌, length}
use Rattle.texts.specs.Facts.{Faulty}
use Rattle.base.specs.Parsed.{got, bad}
use Rattle.pool.specs.Pool.{parse_pool, strings_of}

-- a pool that the check takes, with n strings
pub record Taken (d : List ℕ) (n : ℕ) : Type 0 where
  pub all : parse_pool d ≡ got (strings_of d) []
  pub many : n ≡ length (strings_of d)
  pub most : n ≤ 8192

-- a pool that the check refuses
pub record Failed (d : List ℕ) (m : Refusal) : Type 0 where
  pub fault : parse_pool d ≡ bad m
  pub none : strings_of d ≡ []
  pub number : Faulty m
