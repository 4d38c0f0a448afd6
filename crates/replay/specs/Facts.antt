-- What the laws say of a report, with no walk over the records. To be believed.
use Rattle.std.specs.Prelude.{ℕ, ◌+◌, ◌*◌, ◌<◌, true, false, List, ◌≡◌}
use Rattle.trace_records.specs.Record.{agrees}

-- of n records at a place, the one with the number i is the first that the file contradicts
pub record First (f : List ℕ) (names : ℕ) (s : List ℕ) (at n i : ℕ) : Type 0 where
  pub inside : i < n
  pub wrong : agrees f names s (at + i * 20) ≡ false
  pub before : (j : ℕ) → j < i → agrees f names s (at + j * 20) ≡ true
