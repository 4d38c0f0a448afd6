-- What the laws say of an older string that is read or written. To be believed.
use Rattle.std.specs.Prelude.{◌≡◌, List, ◌++◌, ℕ, ◌+◌, ◌≤◌, length, take, drop, Ok}
use Rattle.texts.specs.Facts.{Fit}
use Rattle.old_counts.specs.OldCount.{read_old_count}
use Rattle.old_texts.specs.OldText.{write_old_text}

-- where the bytes of a string that reads lie
pub record Held (s : List ℕ) (a n : ℕ) : Type 0 where
  pub count : read_old_count s ≡ Ok (n, a)
  pub some : 1 ≤ a
  pub short : a ≤ 5
  pub inside : a + n ≤ length s
  pub fit : Fit (take n (drop a s))

-- a string that reads is the written form of its bytes: so the form is unique
pub record Written (s t r : List ℕ) : Type 0 where
  pub fit : Fit t
  pub form : s ≡ write_old_text t ++ r
