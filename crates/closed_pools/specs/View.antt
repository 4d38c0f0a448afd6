-- What the functions on a pool's strings rely on. The code's way: internal functions alone use it.
use Rattle.std.specs.Prelude.{ℕ, ◌≡◌, List, [], length}
use Rattle.base.specs.Parsed.{got}
use Rattle.pool.specs.Pool.{parse_pool, strings_of}
use Rattle.pool.specs.Index.{Ready}

-- d are the data of a pool that the check takes
abbrev pub GoodPool : List ℕ → Type 0
GoodPool d = parse_pool d ≡ got (strings_of d) []

-- the pool d has n strings, and ix begins with their places
pub record Indexed (d ix : List ℕ) (n : ℕ) : Type 0 where
  pub ready : Ready d ix
  pub count : n ≡ length (strings_of d)
