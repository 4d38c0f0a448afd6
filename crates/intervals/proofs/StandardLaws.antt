-- The test of an interval's standard offset, as facts of wall offset and savings, and in half hours. Assumes nothing.
use mathlib.Core.Path.{◌≡◌, sym, ◌∙◌}
use mathlib.Core.Bool.{true, false}
use Prim.Native.Nat.{ℕ, ◌+◌, ◌-◌, ◌*◌, ◌≤◌, ◌<◌}
use native.Mathlib.Omega.{arith}
use lib.Dec.{ltb, leb}
use borrow.Author.Tests.{lt-ltb, le-ltb, le-leb, lt-leb, leb-true}
use Rattle.base.proofs.Tests.{by_order, both_left, both_right}
use Rattle.offsets.specs.Offset.{in_day}
use Rattle.intervals.specs.Interval.{standard_sum}

module _ (wall savings : ℕ) where
  s : ℕ
  s = wall + 86400000 - savings

  pub standard-range : in_day (standard_sum wall savings) ≡ true → (savings < wall + 86400000) × (wall < savings + 86400000)
  unfolding s
  standard-range e =
      let a : 1 ≤ s = leb-true 1 s (both_left (leb 1 s) _ e) in
      let b : s ≤ 172799999 = leb-true s 172799999 (both_right (leb 1 s) _ e) in
      (omega arith, omega arith)

  pub standard-low : wall + 86400000 ≤ savings → false ≡ in_day (standard_sum wall savings)
  unfolding s
  standard-low h = rw (lt-leb 1 s (omega arith))

  pub standard-are : savings < wall + 86400000 → ltb wall (savings + 86400000) ≡ in_day (standard_sum wall savings)
  unfolding s
  standard-are h =
      by_order wall (savings + 86400000) (λ l. rw (lt-ltb wall (savings + 86400000) l, le-leb 1 s (omega arith), le-leb s 172799999 (omega arith)))
      (λ l. rw (le-ltb wall (savings + 86400000) l, le-leb 1 s (omega arith), lt-leb s 172799999 (omega arith)))

-- both in half hours, by their difference with 303 added
module _ (wall savings : ℕ) where
  pub halves-low : wall + 303 - savings < 256 → false ≡ in_day (standard_sum (wall * 1800000) (savings * 1800000))
  halves-low h = standard-low (wall * 1800000) (savings * 1800000) (omega arith)

  pub halves_are : 256 ≤ wall + 303 - savings → ltb (wall + 303 - savings) 351 ≡ in_day (standard_sum (wall * 1800000) (savings * 1800000))
  halves_are h =
      let e = standard-are (wall * 1800000) (savings * 1800000) (omega arith) in
      by_order (wall + 303 - savings) 351
      (λ l. lt-ltb (wall + 303 - savings) 351 l ∙ sym (lt-ltb (wall * 1800000) (savings * 1800000 + 86400000) (omega arith)) ∙ e)
      (λ l. le-ltb (wall + 303 - savings) 351 l ∙ sym (le-ltb (wall * 1800000) (savings * 1800000 + 86400000) (omega arith)) ∙ e)
