-- A rule of a table: a test over every number below a bound, which antt computes, tells it of each. Assumes nothing.
use mathlib.Core.Path.{◌≡◌, subst, sym}
use mathlib.Core.Logic.{◌⊎◌, inl, inr}
use mathlib.Core.Bool.{Bool, true}
use Prim.Native.Nat.{ℕ, zero, suc, ◌<◌}
use native.Mathlib.Nat.{le_of_suc-le-suc, not-suc-le-zero, eq-or-lt_of_le}
use Rattle.base.specs.Pick.{both}
use Rattle.base.proofs.Tests.{both_left, both_right}

abbrev pub all : (ℕ → Bool) → ℕ → Bool
all f zero = true
all f (suc n) = both (f n) (all f n)

pub below : (f : ℕ → Bool) (n : ℕ) → all f n ≡ true → (i : ℕ) → i < n → f i ≡ true
below f zero e i h = absurd (not-suc-le-zero h)
below f (suc n) e i h = go (eq-or-lt_of_le (le_of_suc-le-suc h)) (below f n (both_right (f n) (all f n) e) i)
  where
    go : (i ≡ n) ⊎ (i < n) → (i < n → f i ≡ true) → f i ≡ true
    go (inl q) ih = subst (λ (j : ℕ). f j ≡ true) (sym q) (both_left (f n) (all f n) e)
    go (inr l) ih = ih l
