-- Laws of the months: where each starts and ends, and their bounds. Assumes nothing.
use mathlib.Core.Path.{◌≡◌, refl}
use mathlib.Core.Bool.{Bool, true, false}
use Prim.Native.Nat.{ℕ, ◌+◌, ◌-◌, ◌*◌, ◌/◌, ◌≤◌, ◌<◌}
use native.Mathlib.Omega.{arith}
use lib.Dec.{eqb, ltb, leb}
use lib.ListN.{get_or}
use borrow.Author.Tests.{eqb-true, eqb-false, ltb-true, ltb-false, leb-true}
use Rattle.base.specs.Pick.{pick}
use Rattle.calendar.specs.Calendar.{leap_day, lengths, befores, month_length, days_before, year_start}
use Rattle.calendar.proofs.Tables.{below}
use Rattle.calendar.proofs.Years.{leap-le, leap-400, year-high}

-- the two tables, month by month
table-next : (m : ℕ) → m < 12 → get_or befores (m + 1) 0 ≡ get_or befores m 0 + get_or lengths m 0
table-next m h = eqb-true _ _ (below (λ m. eqb (get_or befores (m + 1) 0) (get_or befores m 0 + get_or lengths m 0)) 12 refl m h)

pub length-le : (m : ℕ) → m < 13 → get_or lengths m 0 ≤ 31
length-le m h = leb-true _ _ (below (λ m. leb (get_or lengths m 0) 31) 13 refl m h)

pub length-ge : (m : ℕ) → 1 ≤ m → m < 13 → 28 ≤ get_or lengths m 0
length-ge m l h =
    omega (arith, leb-true 28 (get_or lengths m 0 + 28 * (1 - m)) (below (λ m. leb 28 (get_or lengths m 0 + 28 * (1 - m))) 13 refl m h))

pub before-le : (m : ℕ) → m < 13 → get_or befores m 0 + get_or lengths m 0 ≤ 365
before-le m h = leb-true _ _ (below (λ m. leb (get_or befores m 0 + get_or lengths m 0) 365) 13 refl m h)

-- the table of the days before a month, by closed arithmetic
abbrev pub whole_months : ℕ → ℕ
whole_months m = m - (m + 11) / 12

abbrev pub from_march : ℕ → ℕ
from_march m = (m + 9) / 12

pub before-whole : (m : ℕ) → m < 13 → (367 * whole_months m + 5) / 12 ≡ get_or befores m 0 + 2 * from_march m
before-whole m h =
    eqb-true _ _ (below (λ m. eqb ((367 * whole_months m + 5) / 12) (get_or befores m 0 + 2 * from_march m)) 13 refl m h)

pub from-march : (m : ℕ) → m < 13 → from_march m ≡ pick (ltb 2 m) 1 0
from-march m h = eqb-true _ _ (below (λ m. eqb (from_march m) (pick (ltb 2 m) 1 0)) 13 refl m h)

pub march-times : (m n : ℕ) → m < 13 → from_march m * n ≡ pick (ltb 2 m) n 0
march-times m n h = rw (from-march m h) (go (ltb 2 m))
  where
    go : (t : Bool) → pick t 1 0 * n ≡ pick t n 0
    go true = omega arith
    go false = omega arith

pub march-le : (m n : ℕ) → m < 13 → from_march m * n ≤ n
march-le m n h = rw (march-times m n h) (go (ltb 2 m))
  where
    go : (t : Bool) → pick t n 0 ≤ n
    go true = omega arith
    go false = omega arith

-- there is room for what is taken off
pub march-room : (m n : ℕ) → m < 13 → n ≤ 2 → from_march m * n ≤ (367 * whole_months m + 5) / 12
march-room m n h b = rw (before-whole m h) (rw (march-times m n h) (rw (from-march m h) (go (ltb 2 m))))
  where
    go : (t : Bool) → pick t n 0 ≤ get_or befores m 0 + 2 * pick t 1 0
    go true = omega arith
    go false = omega arith

pub before-closed : (k m : ℕ) → m < 13 → (367 * whole_months m + 5) / 12 - from_march m * (2 - leap_day k) ≡ days_before k m
unfolding days_before
before-closed k m h =
    rw (before-whole m h) (rw (march-times m (2 - leap_day k) h) (rw (from-march m h) (go (ltb 2 m) (leap_day k) (leap-le k))))
  where
    go : (t : Bool) (l : ℕ) → l ≤ 1 → get_or befores m 0 + 2 * pick t 1 0 - pick t (2 - l) 0 ≡ get_or befores m 0 + pick t l 0
    go true l h = omega arith
    go false l h = omega arith

-- the leap day is in February and before each later month
not_equal : (a b : ℕ) → eqb a b ≡ false → a ≡ b → ⊥
not_equal a b e = eqb-false a b e

leap-next : (m l : ℕ) (a b c : Bool) → ltb 2 (m + 1) ≡ a → ltb 2 m ≡ b → eqb m 2 ≡ c → pick a l 0 ≡ pick b l 0 + pick c l 0
leap-next m l true true true p q r = omega (arith, ltb-true, eqb-true)
leap-next m l true true false p q r = omega arith
leap-next m l true false true p q r = omega arith
leap-next m l true false false p q r = omega (arith, ltb-true, ltb-false, not_equal)
leap-next m l false true c p q r = omega (arith, ltb-true, ltb-false)
leap-next m l false false true p q r = omega (arith, ltb-false, eqb-true)
leap-next m l false false false p q r = omega arith

leap-once : (m l : ℕ) (a b : Bool) → ltb 2 m ≡ a → eqb m 2 ≡ b → pick a l 0 + pick b l 0 ≤ l
leap-once m l true true p q = omega (arith, ltb-true, eqb-true)
leap-once m l true false p q = omega arith
leap-once m l false b p q = go b
  where
    go : (b : Bool) → pick false l 0 + pick b l 0 ≤ l
    go true = omega arith
    go false = omega arith

-- a month starts where the one before it ends; the first with the year, and the last ends with it
pub month-next : (k m : ℕ) → m < 12 → days_before k (m + 1) ≡ days_before k m + month_length k m
unfolding days_before month_length
month-next k m h = omega (arith, table-next m h, leap-next m (leap_day k) _ _ _ refl refl refl)

pub january : (k : ℕ) → days_before k 1 ≡ 0
unfolding days_before
january k = refl

pub december : (k m : ℕ) → m ≡ 12 → days_before k m + month_length k m ≡ 365 + leap_day k
unfolding days_before month_length
december k m e = rw e (omega arith)

pub month-end : (k m : ℕ) → m < 13 → days_before k m + month_length k m ≤ 365 + leap_day k
unfolding days_before month_length
month-end k m h = omega (arith, before-le m h, leap-once m (leap_day k) _ _ refl refl)

-- a month's longest length
longest-le : (m : ℕ) → m < 13 → get_or lengths m 0 + pick (eqb m 2) 1 0 ≤ 31
longest-le m h = leb-true _ _ (below (λ m. leb (get_or lengths m 0 + pick (eqb m 2) 1 0) 31) 13 refl m h)

pub month-le : (k m : ℕ) → m < 13 → month_length k m ≤ 31
unfolding month_length
month-le k m h = omega (arith, longest-le m h, shorter (eqb m 2) (leap_day k) (leap-le k))
  where
    shorter : (t : Bool) (l : ℕ) → l ≤ 1 → pick t l 0 ≤ pick t 1 0
    shorter true l h = h
    shorter false l h = omega arith

pub month-ge : (k m : ℕ) → get_or lengths m 0 ≤ month_length k m
unfolding month_length
month-ge k m = omega arith

-- room for a day number in 64 bits
pub start-room : (k m : ℕ) → k < 20000 → m < 13 → year_start k + days_before k m < 8000000
start-room k m h g = omega (arith, year-high k, month-end k m g, leap-le k)

-- the months repeat after 400 years
pub month-400 : (k m : ℕ) → month_length (k + 400) m ≡ month_length k m
unfolding month_length
month-400 k m = rw (leap-400 k)

pub before-400 : (k m : ℕ) → days_before (k + 400) m ≡ days_before k m
unfolding days_before
before-400 k m = rw (leap-400 k)
