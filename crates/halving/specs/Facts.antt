-- What the laws say of halving, with no walk over the table. To be believed.
use Rattle.base.specs.Coded.{Fault}
use Rattle.std.specs.Prelude.{ℕ, ◌^◌, ◌≤◌, ◌<◌, ◌≡◌, List, ℤ, pos, ◌≤ℤ◌, ◌<ℤ◌, length, get_or, Ok, Result}

-- the entry of a table at a place
abbrev pub entry_of : List ℤ → ℕ → ℤ
entry_of xs p = get_or xs p (pos 0)

-- "an ascending table": equal entries may follow one another
abbrev pub Ascending : List ℤ → Type 0
Ascending xs = (p q : ℕ) → p ≤ q → q < length xs → entry_of xs p ≤ℤ entry_of xs q

-- "it is the last that isn't" after the instant
pub record LastNotAfter (xs : List ℤ) (z : ℤ) (p : ℕ) : Type 0 where
  pub inside : p < length xs
  pub not_after : entry_of xs p ≤ℤ z
  pub last : (q : ℕ) → p < q → q < length xs → z <ℤ entry_of xs q

-- r gives an entry of the table. "The count of looks given is .. at most the least k with 2 to the k not below n": at most every such k, on any
-- table; "on an ascending table whose first entry isn't after the instant, it is the last that isn't"
pub record Finds (xs : List ℤ) (z : ℤ) (r : Result (ℕ × ℕ) Fault) : Type 0 where
  pub position : ℕ
  pub probes : ℕ
  pub is : r ≡ Ok (position, probes)
  pub inside : position < length xs
  pub looks : (k : ℕ) → length xs ≤ 2 ^ k → probes ≤ k
  pub last : Ascending xs → entry_of xs 0 ≤ℤ z → LastNotAfter xs z position
