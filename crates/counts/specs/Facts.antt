-- What the laws say of a count or fixed code that is read or written. To be believed.
use Rattle.std.specs.Prelude.{◌≡◌, List, ◌++◌, ℕ, ◌+◌, ◌*◌, ◌^◌, ◌≤◌, ◌<◌, length, drop, ℤ}
use Rattle.counts.specs.Groups.{write_groups}
use Rattle.counts.specs.Count.{write_count}
use Rattle.std.specs.Int.{w32}
use Rattle.std.proofs.Common.{SFits}
use Rattle.counts.specs.SignedCount.{write_signed_count}
use Rattle.counts.specs.Fixed.{fixed_from}

-- a value v that s gives in n bytes
pub record Group (k top : ℕ) (s : List ℕ) (v n : ℕ) : Type 0 where
  pub small : v < (top + 1) * 128 ^ k
  pub some : 1 ≤ n
  pub size : n ≤ k + 1
  pub within : n ≤ length s
  pub single : v < 128 → n ≡ 1

-- s starts with the written form of the value v that it gives in n bytes: so the form is unique
pub record Written (k : ℕ) (s : List ℕ) (v n : ℕ) : Type 0 where
  pub form : s ≡ write_groups k v ++ drop n s
  pub size : n ≡ length (write_groups k v)

-- a count v that s gives in n bytes
pub record Counted (s : List ℕ) (v n : ℕ) : Type 0 where
  pub small : v ≤ 2147483647
  pub some : 1 ≤ n
  pub size : n ≤ 5
  pub within : n ≤ length s
  pub single : v < 128 → n ≡ 1

-- the written form: 1 to 5 bytes, not shorter for a larger number
pub record CountSize (v : ℕ) : Type 0 where
  pub some : 1 ≤ length (write_count v)
  pub most : length (write_count v) ≤ 5

-- a signed count z that s gives in n bytes
pub record SignedCounted (s : List ℕ) (z : ℤ) (n : ℕ) : Type 0 where
  pub small : SFits w32 z
  pub some : 1 ≤ n
  pub size : n ≤ 5
  pub within : n ≤ length s

-- what reads as z is the written form of z: so the form is unique
pub record SignedWritten (s : List ℕ) (z : ℤ) (n : ℕ) : Type 0 where
  pub form : s ≡ write_signed_count z ++ drop n s
  pub size : n ≡ length (write_signed_count z)

-- the number has the bits of high above its n bytes
pub record Between (n high v : ℕ) : Type 0 where
  pub low : high * 256 ^ n ≤ v
  pub below : v < (high + 1) * 256 ^ n

-- n bytes that are there
pub record FixedRead (n high : ℕ) (s : List ℕ) (v m : ℕ) : Type 0 where
  pub value : v ≡ fixed_from n high s
  pub size : m ≡ n
  pub within : n ≤ length s
