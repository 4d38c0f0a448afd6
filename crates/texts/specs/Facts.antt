-- What the laws say of a text that is read, refused or written. To be believed.
use Rattle.base.specs.Coded.{Coded}
use Rattle.base.specs.declared.Refusal.{Refusal}
use Rattle.base.specs.declared.Refusal.TheVariants.{BadCode, BadData, BadText, TooLarge}
use Rattle.std.specs.Prelude.{◌≡◌, List, ◌++◌, true, ℕ, ◌+◌, ◌-◌, ◌≤◌, length, take, drop, ◌⊎◌, Ok}
use Rattle.counts.specs.Count.{read_count}
use Rattle.utf8.specs.Utf8.{utf8}
use Rattle.texts.specs.Text.{write_text}

-- a text of n bytes behind a bytes of its length, whatever code g that length is read from
pub record Sized (s : List ℕ) (g : Coded ℕ) (a n : ℕ) : Type 0 where
  pub code : g ≡ Ok (n, a)
  pub small : n ≤ 1024
  pub room : n ≤ length s - a
  pub valid : utf8 (take n (drop a s)) ≡ true

-- where the bytes of a text that reads lie, and what they are
pub record Held (s : List ℕ) (a n : ℕ) : Type 0 where
  pub count : read_count s ≡ Ok (n, a)
  pub small : n ≤ 1024
  pub some : 1 ≤ a
  pub short : a ≤ 5
  pub inside : a + n ≤ length s
  pub valid : utf8 (take n (drop a s)) ≡ true

-- a text that the writer takes
pub record Fit (t : List ℕ) : Type 0 where
  pub small : length t ≤ 1024
  pub valid : utf8 t ≡ true

-- a text that reads is the written form of its bytes t: so the form is unique
pub record Written (s t : List ℕ) (a n : ℕ) : Type 0 where
  pub fit : Fit t
  pub size : a + n ≡ length (write_text t)
  pub form : s ≡ write_text t ++ drop (a + n) s

-- 4, or 7 to 9
abbrev pub Faulty : Refusal → Type 0
Faulty m = (m ≡ TooLarge) ⊎ ((m ≡ BadCode) ⊎ ((m ≡ BadText) ⊎ (m ≡ BadData)))
