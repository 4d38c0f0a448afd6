-- What the laws say of an offset that is read or written. To be believed.
use Rattle.std.specs.Prelude.{◌≡◌, List, ◌∷◌, ◌++◌, ℕ, ◌+◌, ◌*◌, ◌%◌, ◌≤◌, ◌<◌, ℤ, length, drop}
use Rattle.counts.specs.Fixed.{read_fixed, prefixed}
use Rattle.signed.specs.OffsetSum.{sum_of}
use Rattle.offsets.specs.Offset.{in_units, read_sum, write_sum}

-- a sum in its range that no form in units of coarser carries
pub record Fine (coarser sum : ℕ) : Type 0 where
  pub least : 1 ≤ sum
  pub most : sum ≤ 172799999
  pub fine : sum % coarser ≡ 0 → ⊥

-- a form of n bytes behind the first one, of prefix p: what it reads, and what is written in it
pub record Level (n p unit coarser : ℕ) : Type 0 where
  pub most : n ≤ 3
  pub aligned : p % 32 ≡ 0
  pub reads : (b : ℕ) (s : List ℕ) → p ≤ b → b < p + 32 → read_sum (b ∷ s) ≡ in_units unit coarser (read_fixed n (b % 32) s)
  pub writes : (v : ℕ) → Fine coarser (v * unit) → write_sum (v * unit) ≡ prefixed n p v

-- a sum that s gives in n bytes
pub record SumRead (s : List ℕ) (sum n : ℕ) : Type 0 where
  pub least : 1 ≤ sum
  pub most : sum ≤ 172799999
  pub some : 1 ≤ n
  pub size : n ≤ 4
  pub within : n ≤ length s

-- s starts with the written form of the sum that it gives: so the form is unique
pub record SumWritten (s : List ℕ) (sum n : ℕ) : Type 0 where
  pub form : s ≡ write_sum sum ++ drop n s
  pub size : n ≡ length (write_sum sum)

-- the written form is 1 to 4 bytes
pub record SumSize (sum : ℕ) : Type 0 where
  pub some : 1 ≤ length (write_sum sum)
  pub most : length (write_sum sum) ≤ 4

-- the same of the offset in milliseconds
pub record OffsetRead (s : List ℕ) (z : ℤ) (n : ℕ) : Type 0 where
  pub inside : 1 ≤ sum_of z
  pub some : 1 ≤ n
  pub size : n ≤ 4
  pub within : n ≤ length s
