-- The day of a rule against the signed count that it is, and the longest and shortest months. Assumes nothing.
use mathlib.Core.Path.{◌≡◌, refl}
use mathlib.Core.Bool.{Bool, true, false}
use Prim.Native.Nat.{ℕ, suc, ◌+◌, ◌/◌, ◌%◌, ◌≤◌}
use native.Mathlib.Omega.{arith}
use lib.Dec.{eqb}
use lib.IntN.{pos, negsuc, neg_ℤ}
use borrow.Author.Tests.{eqb-true, eqb-false, eq-eqb, ne_eqb}
use Rattle.base.specs.Pick.{pick}
use Rattle.signed.specs.Zigzag.{unzigzag_of}
use Rattle.calendar.specs.Calendar.{leap_day, month_length}
use Rattle.calendar.proofs.Years.{leap-le}
use Rattle.rules.specs.Fields.{from_end, day_of}
use Rattle.rules.specs.Rules.{most_day}

-- the signed count of a number in the file has the sign and the size that the rule takes from it
pub signed-day : (z : ℕ) → unzigzag_of z ≡ pick (from_end z) (neg_ℤ (pos (day_of z))) (pos (day_of z))
unfolding unzigzag_of
signed-day z = go (eqb (z % 2) 1) refl
  where
    go : (t : Bool) → eqb (z % 2) 1 ≡ t → pick (eqb (z % 2) 0) (pos (z / 2)) (negsuc (z / 2)) ≡ pick t (neg_ℤ (pos (day_of z))) (pos (day_of z))
    go true e =
        let o : z % 2 ≡ 1 = eqb-true (z % 2) 1 e in
        let d : z / 2 + z % 2 ≡ suc (z / 2) = omega arith in
        rw (d, ne_eqb (z % 2) 0 (λ k. omega arith))
    go false e =
        let o : z % 2 ≡ 0 = omega (arith, eqb-false (z % 2) 1 e) in
        let d : z / 2 + z % 2 ≡ z / 2 = omega arith in
        rw (d, eq-eqb (z % 2) 0 o)

-- "the month's longest length", "its shortest length": over all years, and each in some year
pub record Lengths (m : ℕ) : Type 0 where
  pub longest : (k : ℕ) → month_length k m ≤ most_day m false
  pub shortest : (k : ℕ) → most_day m true ≤ month_length k m
  pub long-year : ℕ
  pub is-longest : month_length long-year m ≡ most_day m false
  pub short-year : ℕ
  pub is-shortest : month_length short-year m ≡ most_day m true

pub lengths-of : (m : ℕ) → Lengths m
unfolding most_day month_length leap_day
lengths-of m =
    record {
      longest = λ k. omega (arith, more (eqb m 2) (leap_day k) (leap-le k));
      shortest = λ k. omega (arith, less (eqb m 2) (leap_day k));
      long-year = 2024 + 399;
      is-longest = refl;
      short-year = 2023 + 399;
      is-shortest = refl;
    }
  where
    more : (t : Bool) (l : ℕ) → l ≤ 1 → pick t l 0 ≤ pick t 1 0
    more true l h = h
    more false l h = omega arith

    less : (t : Bool) (l : ℕ) → pick t 0 0 ≤ pick t l 0
    less true l = omega arith
    less false l = omega arith
