-- The test of an instant, and what a moment is. Assumes nothing.
use mathlib.Core.Path.{◌≡◌}
use mathlib.Core.Bool.{true, false}
use Prim.Native.Nat.{ℕ, ◌<◌}
use native.Mathlib.Omega.{arith}
use lib.Dec.{leb}
use borrow.Author.Tests.{le-leb, lt-leb, leb-true}
use Rattle.base.specs.Moment.{Finite, finite, first_instant, last_instant}
pub use Rattle.base.specs.Moment.{Moment}
use Rattle.base.proofs.Tests.{both_left, both_right}

pub finite-true : (t : ℕ) → finite t ≡ true → Finite t
finite-true t e = record {
  low = leb-true first_instant t (both_left (leb first_instant t) (leb t last_instant) e);
  high = leb-true t last_instant (both_right (leb first_instant t) (leb t last_instant) e);
}

pub finite-yes : (t : ℕ) → Finite t → finite t ≡ true
finite-yes t h = rw (le-leb first_instant t h.low, le-leb t last_instant h.high)

pub finite-low : (t : ℕ) → t < first_instant → finite t ≡ false
finite-low t h = rw (lt-leb first_instant t h)

pub finite-high : (t : ℕ) → last_instant < t → finite t ≡ false
finite-high t h = rw (le-leb first_instant t (omega arith), lt-leb t last_instant h)
