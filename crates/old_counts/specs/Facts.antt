-- What the laws say of an older count that is read or written. To be believed.
use Rattle.std.specs.Prelude.{◌≡◌, List, ◌∷◌, ◌++◌, ℕ, ◌+◌, ◌*◌, ◌^◌, ◌≤◌, ◌<◌, length, drop}
use Rattle.counts.specs.Fixed.{read_fixed, prefixed}
use Rattle.old_counts.specs.OldCount.{value_from, read_old_count, write_old_count}

-- a form of n bytes behind the first one, which is prefix or one of the bytes above it, wide in all; its values start at first
pub record Level (n prefix wide first : ℕ) : Type 0 where
  pub most : n ≤ 3
  pub fits : (v : ℕ) → v < wide * 256 ^ n → first + v ≤ 2147483647
  pub reads : (high : ℕ) (s : List ℕ) → high < wide → read_old_count ((prefix + high) ∷ s) ≡ value_from first (read_fixed n high s)
  pub writes : (v : ℕ) → v < wide * 256 ^ n → write_old_count (first + v) ≡ prefixed n prefix v

-- a code of n bytes at the front of s
pub record Sized (s : List ℕ) (n : ℕ) : Type 0 where
  pub some : 1 ≤ n
  pub size : n ≤ 5
  pub within : n ≤ length s

-- s starts with xs, which are n bytes
pub record StartsWith (s xs : List ℕ) (n : ℕ) : Type 0 where
  pub form : s ≡ xs ++ drop n s
  pub size : n ≡ length xs
