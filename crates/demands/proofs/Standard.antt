-- The standard offset of an answer is its wall offset minus its savings, and inside 24 hours. Assumes nothing.
use mathlib.Core.Path.{◌≡◌, sym, ap, ◌∙◌, subst}
use Prim.Native.Nat.{ℕ, ◌+◌, ◌<◌}
use native.Mathlib.Omega.{arith}
use lib.Dec.{T}
use lib.IntN.{ℤ, ◌+ℤ◌, ◌-ℤ◌, +ℤ-neg_ℤ_cancel}
use lib.Signed.{◌<ℤ◌}
use borrow.Author.Tests.{lt-ltb}
use Rattle.signed.specs.OffsetSum.{milliseconds_of}
use Rattle.signed.proofs.OrderLaws.{sub-lt, sub_same, sub-add}
use Rattle.intervals.specs.Interval.{standard_sum}
use Rattle.zones.specs.Sound.{FoundOk}
use Rattle.zones.specs.declared.Found.{Found as Interval}
use Rattle.answers.specs.Answers.{Pool, answered}
use Rattle.demands.specs.Right.{StandardRight}

-- wall minus savings, both sums
minus : (wall savings : ℕ) → savings < wall + 86400000 → milliseconds_of (standard_sum wall savings) ≡ milliseconds_of wall -ℤ milliseconds_of savings
minus wall savings h =
    let s : ℤ = milliseconds_of savings in
    let whole : milliseconds_of (standard_sum wall savings) +ℤ s ≡ milliseconds_of wall =
    sub-add (standard_sum wall savings) 86400000 savings 86400000 ∙ sub_same (standard_sum wall savings + savings) (86400000 + 86400000) wall 86400000 (omega arith) in
    sym (+ℤ-neg_ℤ_cancel (milliseconds_of (standard_sum wall savings)) s) ∙ ap (λ (z : ℤ). z -ℤ s) whole

-- sums stand in the order of their offsets
less : (a b : ℕ) → a < b → milliseconds_of a <ℤ milliseconds_of b
less a b h = record { lt = subst T (sym (sub-lt a b 86400000 ∙ lt-ltb a b h)) tt }

pub standard-right : (y : Pool) (pool : ℕ) (i : Interval) → FoundOk pool i → StandardRight (answered y i)
standard-right y pool i o =
    let s : ℕ = standard_sum i.wall i.savings in
    record {
      difference = minus i.wall i.savings o.standard-low;
      above = less 0 s (omega (arith, o.standard-low));
      below = less s 172800000 (omega (arith, o.standard-high));
    }
