-- Laws of the years: their lengths, their cycle of 400, and the year of a day. Assumes nothing.
use mathlib.Core.Path.{◌≡◌, refl, sym}
use mathlib.Core.Bool.{Bool, true, false}
use Prim.Native.Nat.{ℕ, zero, suc, ◌+◌, ◌-◌, ◌*◌, ◌/◌, ◌%◌, ◌≤◌, ◌<◌}
use native.Mathlib.Omega.{arith}
use native.Mathlib.Nat.{add-zero, add-suc}
use native.Mathlib.Numerals.{add-one}
use lib.Dec.{eqb, leb}
use borrow.Author.Tests.{eqb-true, eqb-false, leb-true, leb-false}
use Rattle.base.specs.Pick.{pick}
use Rattle.base.proofs.Tests.{by_order}
use Rattle.calendar.specs.Calendar.{leap_day, year_start, weekday_of, estimate, year_of, InYear}

not-zero : (a : ℕ) → eqb a 0 ≡ false → 1 ≤ a
not-zero a e = omega (arith, eqb-false a 0 e)

-- the quotients of the next year. One law for each divisor, since `omega` divides by numerals only
quotient-4 : (k : ℕ) (b : Bool) → eqb ((k + 1) % 4) 0 ≡ b → (k + 1) / 4 ≡ k / 4 + pick b 1 0
quotient-4 k true e = omega (arith, eqb-true)
quotient-4 k false e = omega (arith, not-zero)

quotient-100 : (k : ℕ) (b : Bool) → eqb ((k + 1) % 100) 0 ≡ b → (k + 1) / 100 ≡ k / 100 + pick b 1 0
quotient-100 k true e = omega (arith, eqb-true)
quotient-100 k false e = omega (arith, not-zero)

quotient-400 : (k : ℕ) (b : Bool) → eqb ((k + 1) % 400) 0 ≡ b → (k + 1) / 400 ≡ k / 400 + pick b 1 0
quotient-400 k true e = omega (arith, eqb-true)
quotient-400 k false e = omega (arith, not-zero)

-- a year divisible by 100 is divisible by 4, and one divisible by 400 by 100
not-4 : (k : ℕ) → eqb ((k + 1) % 4) 0 ≡ false → eqb ((k + 1) % 100) 0 ≡ true → ⊥
not-4 k p q = omega (arith, not-zero, eqb-true)

not-100 : (k : ℕ) → eqb ((k + 1) % 100) 0 ≡ false → eqb ((k + 1) % 400) 0 ≡ true → ⊥
not-100 k p q = omega (arith, not-zero, eqb-true)

-- the leap day is the sum of what the three quotients add
leap-sum : (a b c : Bool) → (a ≡ false → b ≡ true → ⊥) → (b ≡ false → c ≡ true → ⊥) → pick a (pick b (pick c 1 0) 1) 0 + pick b 1 0 ≡ pick a 1 0 + pick c 1 0
leap-sum true true true f g = refl
leap-sum true true false f g = refl
leap-sum true false true f g = absurd (g refl refl)
leap-sum true false false f g = refl
leap-sum false true c f g = absurd (f refl refl)
leap-sum false false true f g = absurd (g refl refl)
leap-sum false false false f g = refl

leap-is : (k : ℕ) → leap_day k + pick (eqb ((k + 1) % 100) 0) 1 0 ≡ pick (eqb ((k + 1) % 4) 0) 1 0 + pick (eqb ((k + 1) % 400) 0) 1 0
unfolding leap_day
leap-is k = leap-sum (eqb ((k + 1) % 4) 0) (eqb ((k + 1) % 100) 0) (eqb ((k + 1) % 400) 0) (not-4 k) (not-100 k)

pub leap-le : (k : ℕ) → leap_day k ≤ 1
unfolding leap_day
leap-le k = go (eqb ((k + 1) % 4) 0) (eqb ((k + 1) % 100) 0) (eqb ((k + 1) % 400) 0)
  where
    go : (a b c : Bool) → pick a (pick b (pick c 1 0) 1) 0 ≤ 1
    go true true true = omega arith
    go true true false = omega arith
    go true false c = omega arith
    go false b c = omega arith

-- the difference in `year_start` is never cut at 0
pub fewer : (k : ℕ) → k / 100 ≤ 365 * k + k / 4
fewer k = omega arith

-- sums over plain variables, where `omega` sees no division
sum-next : (k a b c a' b' c' l p q r : ℕ) → a' ≡ a + p → b' ≡ b + q → c' ≡ c + r → l + q ≡ p + r → b ≤ 365 * k + a → b' ≤ 365 * (k + 1) + a' → 365 * (k + 1) + a' - b' + c' ≡ 365 * k + a - b + c + 365 + l
sum-next k a b c a' b' c' l p q r ea eb ec el h h' = omega arith

-- a year is 365 days and its leap day
pub year-next : (k : ℕ) → year_start (k + 1) ≡ year_start k + 365 + leap_day k
unfolding year_start
year-next k =
    sum-next k _ _ _ _ _ _ _ _ _ _ (quotient-4 k _ refl) (quotient-100 k _ refl) (quotient-400 k _ refl) (leap-is k) (fewer k) (fewer (k + 1))

-- after 400 years the leap years repeat, 146097 days on, and with them the weekdays
pub leap-400 : (k : ℕ) → leap_day (k + 400) ≡ leap_day k
unfolding leap_day
leap-400 k =
    let a : (k + 400 + 1) % 4 ≡ (k + 1) % 4 = omega arith in
    let b : (k + 400 + 1) % 100 ≡ (k + 1) % 100 = omega arith in
    let c : (k + 400 + 1) % 400 ≡ (k + 1) % 400 = omega arith in
    rw (a, b, c)

sum-400 : (k a b c a' b' c' : ℕ) → a' ≡ a + 100 → b' ≡ b + 4 → c' ≡ c + 1 → b ≤ 365 * k + a → 365 * (k + 400) + a' - b' + c' ≡ 365 * k + a - b + c + 146097
sum-400 k a b c a' b' c' ea eb ec h = omega arith

pub year-400 : (k : ℕ) → year_start (k + 400) ≡ year_start k + 146097
unfolding year_start
year-400 k = sum-400 k _ _ _ _ _ _ (omega arith) (omega arith) (omega arith) (fewer k)

pub weekday-400 : (n : ℕ) → weekday_of (n + 146097) ≡ weekday_of n
weekday-400 n = omega arith

-- where the years start, by two inequalities in whole numbers: no year is found by a loop
pub year-low : (k : ℕ) → 146097 * k ≤ 400 * year_start k + 699
unfolding year_start
year-low k = low k _ _ _ (omega arith) (omega arith) (omega arith) (fewer k)
  where
    low : (k a b c : ℕ) → k ≤ 4 * a + 3 → 100 * b ≤ k → k ≤ 400 * c + 399 → b ≤ 365 * k + a → 146097 * k ≤ 400 * (365 * k + a - b + c) + 699
    low k a b c ha hb hc h = omega arith

pub year-high : (k : ℕ) → 400 * year_start k ≤ 146097 * k + 396
unfolding year_start
year-high k = high k _ _ _ (omega arith) (omega arith) (omega arith) (fewer k)
  where
    high : (k a b c : ℕ) → 4 * a ≤ k → k ≤ 100 * b + 99 → 400 * c ≤ k → b ≤ 365 * k + a → 400 * (365 * k + a - b + c) ≤ 146097 * k + 396
    high k a b c ha hb hc h = omega arith

-- the years' starts rise
pub year-rises : (k d : ℕ) → year_start k + 365 * d ≤ year_start (k + d)
year-rises k zero = rw (add-zero k) (omega arith)
year-rises k (suc d) = rw (add-suc, ← add-one (k + d)) (omega (arith, year-rises k d, year-next (k + d)))

-- the estimate is the year of the day or one more
estimate-to : (n : ℕ) → n < year_start (estimate n + 1)
unfolding estimate
estimate-to n = omega (arith, year-low ((400 * n + 699) / 146097 + 1))

estimate-from : (n j : ℕ) → estimate n ≡ j + 1 → year_start j ≤ n
unfolding estimate
estimate-from n j e = omega (arith, year-high j)

-- the year of a day holds it, and no other does
pub year-of : (n : ℕ) → InYear n (year_of n)
unfolding year_of
year-of n = go (leb (year_start (estimate n)) n) refl
  where
    go : (b : Bool) → leb (year_start (estimate n)) n ≡ b → InYear n (pick b (estimate n) (estimate n - 1))
    go true e = record { from = leb-true _ _ e; to = estimate-to n }
    go false e =
        let h : estimate n - 1 + 1 ≡ estimate n = omega (arith, leb-false (year_start (estimate n)) n e, year-high (estimate n)) in
        record { from = estimate-from n (estimate n - 1) (sym h); to = rw h (leb-false _ _ e) }

pub year-le : (n j k : ℕ) → InYear n j → InYear n k → j ≤ k
year-le n j k a b = by_order k j (λ l. absurd (go l)) (λ l. l)
  where
    go : k < j → ⊥
    go l =
        let e : k + 1 + (j - (k + 1)) ≡ j = omega arith in
        omega (arith, rw e at (year-rises (k + 1) (j - (k + 1))))

pub year-one : (n k : ℕ) → InYear n k → k ≡ year_of n
year-one n k a = omega (arith, year-le n k (year_of n) a (year-of n), year-le n (year_of n) k (year-of n) a)
