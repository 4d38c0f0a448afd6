-- The numbering of the days is day_number, and there is no other. Assumes nothing.
use mathlib.Core.Path.{◌≡◌, refl, sym, ap, ◌∙◌, subst}
use Prim.Native.Nat.{ℕ, zero, suc, ◌+◌, ◌-◌, ◌≤◌, ◌<◌}
use native.Mathlib.Omega.{arith}
use native.Mathlib.Numerals.{add-one}
use borrow.Author.Tests.{lt-ltb, le-ltb, leb-true}
use Rattle.calendar.specs.Calendar.{leap_day, month_length, days_before, year_start, day_number, Date, IsDate, date_number, next_date, Taken, NextIsOneMore, Numbering}
use Rattle.calendar.proofs.Months.{length-ge, month-ge}
use Rattle.calendar.proofs.Dates.{next-date}

abbrev pub date : ℕ → ℕ → ℕ → Date
date k m d = record { year = k; month = m; day = d }

pub numbering : Numbering date_number
unfolding day_number days_before leap_day year_start
numbering = record { first = refl; next = next-date }

-- the three ways on
next-day : (k m d : ℕ) → d < month_length k m → next_date (date k m d) ≡ date k m (d + 1)
unfolding next_date
next-day k m d h = rw (lt-ltb d (month_length k m) h)

next-month : (k m : ℕ) → m < 12 → next_date (date k m (month_length k m)) ≡ date k (m + 1) 1
unfolding next_date
next-month k m h = rw (le-ltb (month_length k m) (month_length k m) (omega arith), lt-ltb m 12 h)

next-year : (k : ℕ) → next_date (date k 12 (month_length k 12)) ≡ date (k + 1) 1 1
unfolding next_date
next-year k = rw (le-ltb (month_length k 12) (month_length k 12) (omega arith))

some-days : (k m : ℕ) → 1 ≤ m → m ≤ 12 → 1 ≤ month_length k m
some-days k m l h = omega (arith, length-ge m l (omega arith), month-ge k m)

module _ (f g : Date → ℕ) (p : Numbering f) (q : Numbering g) where
  abbrev Same : Date → Type 0
  Same a = f a ≡ g a

  step : (a b : Date) → IsDate a → next_date a ≡ b → Same a → Same b
  step a b v e h = sym (ap f e) ∙ p.next a v ∙ ap (λ (n : ℕ). n + 1) h ∙ sym (q.next a v) ∙ ap g e

  -- within a month, from its first day on
  days : (k m : ℕ) → 1 ≤ m → m ≤ 12 → Same (date k m 1) → (d : ℕ) → suc d ≤ month_length k m → Same (date k m (suc d))
  days k m l h s zero i = s
  days k m l h s (suc d) i =
      step (date k m (suc d)) (date k m (suc (suc d)))
      (record { month-low = l; month-high = h; day-low = omega arith; day-high = omega arith })
      (next-day k m (suc d) i ∙ ap (date k m) (add-one (suc d)))
      (days k m l h s d (omega arith))

  in-month : (k m d : ℕ) → 1 ≤ m → m ≤ 12 → 1 ≤ d → d ≤ month_length k m → Same (date k m 1) → Same (date k m d)
  in-month k m d l h i j s =
      let e : suc (d - 1) ≡ d = omega arith in
      subst (λ (n : ℕ). Same (date k m n)) e (days k m l h s (d - 1) (omega arith))

  last-day : (k m : ℕ) → 1 ≤ m → m ≤ 12 → IsDate (date k m (month_length k m))
  last-day k m l h = record { month-low = l; month-high = h; day-low = some-days k m l h; day-high = omega arith }

  last-same : (k m : ℕ) → 1 ≤ m → m ≤ 12 → Same (date k m 1) → Same (date k m (month_length k m))
  last-same k m l h s = in-month k m (month_length k m) l h (some-days k m l h) (omega arith) s

  -- from month to month, and from year to year
  months : (k : ℕ) → Same (date k 1 1) → (m : ℕ) → suc m ≤ 12 → Same (date k (suc m) 1)
  months k s zero h = s
  months k s (suc m) h =
      step (date k (suc m) (month_length k (suc m))) (date k (suc (suc m)) 1)
      (last-day k (suc m) (omega arith) (omega arith))
      (next-month k (suc m) (omega arith) ∙ ap (λ (n : ℕ). date k n 1) (add-one (suc m)))
      (last-same k (suc m) (omega arith) (omega arith) (months k s m (omega arith)))

  years : (k : ℕ) → Same (date k 1 1)
  years zero = p.first ∙ sym q.first
  years (suc k) =
      step (date k 12 (month_length k 12)) (date (suc k) 1 1)
      (last-day k 12 (omega arith) (omega arith))
      (next-year k ∙ ap (λ (n : ℕ). date n 1 1) (add-one k))
      (last-same k 12 (omega arith) (omega arith) (months k (years k) 11 (omega arith)))

  pub one-numbering : (a : Date) → IsDate a → f a ≡ g a
  one-numbering a v =
      let e : suc (a.month - 1) ≡ a.month = omega arith in
      in-month a.year a.month a.day v.month-low v.month-high v.day-low v.day-high
      (subst (λ (n : ℕ). Same (date a.year n 1)) e (months a.year (years a.year) (a.month - 1) (omega arith)))

-- what numbers the days in order is day_number
pub only-numbering : (f : Date → ℕ) → Numbering f → (a : Date) → IsDate a → f a ≡ date_number a
only-numbering f p a v = one-numbering f date_number p numbering a v

-- computed: which years have a leap day; dates at the ends of February and of a year, and the dates after them
pub leap-years : (leap_day (1900 + 399) ≡ 0) × (leap_day (2000 + 399) ≡ 1) × (leap_day (2023 + 399) ≡ 0) × (leap_day (2024 + 399) ≡ 1)
unfolding leap_day
leap-years = (refl, refl, refl, refl)

pub february-28 : IsDate (date (2023 + 399) 2 28)
unfolding month_length leap_day
february-28 = record { month-low = omega arith; month-high = omega arith; day-low = omega arith; day-high = leb-true _ _ refl }

pub february-29 : IsDate (date (2024 + 399) 2 29)
unfolding month_length leap_day
february-29 = record { month-low = omega arith; month-high = omega arith; day-low = omega arith; day-high = leb-true _ _ refl }

pub december-31 : IsDate (date (2024 + 399) 12 31)
unfolding month_length leap_day
december-31 = record { month-low = omega arith; month-high = omega arith; day-low = omega arith; day-high = leb-true _ _ refl }

pub after-28 : next_date (date (2023 + 399) 2 28) ≡ date (2023 + 399) 3 1
unfolding next_date month_length leap_day
after-28 = refl

pub after-28-leap : next_date (date (2024 + 399) 2 28) ≡ date (2024 + 399) 2 29
unfolding next_date month_length leap_day
after-28-leap = refl

pub after-29 : next_date (date (2024 + 399) 2 29) ≡ date (2024 + 399) 3 1
unfolding next_date month_length leap_day
after-29 = refl

pub after-31 : next_date (date (2024 + 399) 12 31) ≡ date (2025 + 399) 1 1
unfolding next_date month_length leap_day
after-31 = refl

-- 1900 had no leap day, 2000 had one
pub after-28-1900 : next_date (date (1900 + 399) 2 28) ≡ date (1900 + 399) 3 1
unfolding next_date month_length leap_day
after-28-1900 = refl

pub after-28-2000 : next_date (date (2000 + 399) 2 28) ≡ date (2000 + 399) 2 29
unfolding next_date month_length leap_day
after-28-2000 = refl

-- ASK 4: the next date's number is one more, for every date that day_number takes
pub next-is-one-more : (a : Date) → NextIsOneMore a
next-is-one-more a = record { one_more = λ t u. next-date a t.is-date }

-- it takes 29 February of a leap year, 31 December, and the dates after them
pub taken-29 : Taken (date (2024 + 399) 2 29) × Taken (date (2024 + 399) 3 1)
unfolding month_length leap_day
taken-29 = (
  record { is-date = february-29; year-high = omega arith },
  record {
    is-date = record { month-low = omega arith; month-high = omega arith; day-low = omega arith; day-high = leb-true _ _ refl };
    year-high = omega arith;
  },
)

pub taken-31 : Taken (date (2024 + 399) 12 31) × Taken (date (2025 + 399) 1 1)
unfolding month_length leap_day
taken-31 = (
  record { is-date = december-31; year-high = omega arith },
  record {
    is-date = record { month-low = omega arith; month-high = omega arith; day-low = omega arith; day-high = leb-true _ _ refl };
    year-high = omega arith;
  },
)
