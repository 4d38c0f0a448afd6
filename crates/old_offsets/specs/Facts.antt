-- What the laws say of an older offset that is read or written. To be believed.
use Rattle.std.specs.Prelude.{◌≡◌, List, ◌∷◌, ℕ, ◌+◌, ◌*◌, ◌/◌, ◌^◌, ◌≤◌, ◌<◌}
use Rattle.counts.specs.Fixed.{read_fixed, prefixed}
use Rattle.offsets.specs.Facts.{Fine}
use Rattle.old_offsets.specs.OldOffset.{judged, read_old_sum, write_old_sum}

-- a form of n bytes behind the first one, whose bits above the prefix are from least on and below wide: what it reads, and what is written in it
pub record Level (n prefix least wide coarser : ℕ) (sum : ℕ → ℕ) : Type 0 where
  pub most : n ≤ 4
  pub reads : (high : ℕ) (s : List ℕ) → least ≤ high → high < wide → read_old_sum ((prefix + high) ∷ s) ≡ judged sum coarser (read_fixed n high s)
  pub inside : (v : ℕ) → v < wide * 256 ^ n → Fine coarser (sum v) → least ≤ v / 256 ^ n
  pub writes : (v : ℕ) → v < wide * 256 ^ n → Fine coarser (sum v) → write_old_sum (sum v) ≡ prefixed n prefix v
