-- The proleptic Gregorian calendar: "Dates are proleptic Gregorian, with years 0 and below allowed inside the arithmetic."
-- To be believed; `next-date` (proofs/Dates.antt) says it of one day and the next.
-- A year is the number k of whole years since 1 January of year -399, so year 1 is 400 and year -399, the lowest, is 0; a day is the
-- number of days since that 1 January, a Monday. Years 0 and below are thus the numbers below 400, and nothing is negative. That no
-- year lies before is no loss: 400 years are 146097 days, exactly 20871 weeks, and leap years, day numbers and weekdays repeat with
-- them (leap-400, day-400, weekday-400 in proofs/), so a count of years from any earlier 400 years gives the same calendar.
use Rattle.std.specs.Prelude.{◌≡◌, List, [], ◌∷◌, ℕ, ◌+◌, ◌-◌, ◌*◌, ◌/◌, ◌%◌, ◌≤◌, ◌<◌, eqb, ltb, leb, get_or}
use Rattle.base.specs.Pick.{pick}

-- the leap days of a year, 0 or 1: a year divisible by 4 has one, but of those divisible by 100 only those divisible by 400.
-- The year k is k - 399, and 400 more leaves the same remainders
unfoldable pub leap_day : ℕ → ℕ
leap_day k = pick (eqb ((k + 1) % 4) 0) (pick (eqb ((k + 1) % 100) 0) (pick (eqb ((k + 1) % 400) 0) 1 0) 1) 0

-- the length of each month, 1 to 12, in a common year: its shortest length
abbrev pub lengths : List ℕ
lengths = 0 ∷ 31 ∷ 28 ∷ 31 ∷ 30 ∷ 31 ∷ 30 ∷ 31 ∷ 31 ∷ 30 ∷ 31 ∷ 30 ∷ 31 ∷ []

-- the days before it
abbrev pub befores : List ℕ
befores = 0 ∷ 0 ∷ 31 ∷ 59 ∷ 90 ∷ 120 ∷ 151 ∷ 181 ∷ 212 ∷ 243 ∷ 273 ∷ 304 ∷ 334 ∷ []

-- the same in a year: the leap day is in February
unfoldable pub month_length : ℕ → ℕ → ℕ
month_length k m = get_or lengths m 0 + pick (eqb m 2) (leap_day k) 0

unfoldable pub days_before : ℕ → ℕ → ℕ
days_before k m = get_or befores m 0 + pick (ltb 2 m) (leap_day k) 0

-- the day of 1 January
unfoldable pub year_start : ℕ → ℕ
year_start k = 365 * k + k / 4 - k / 100 + k / 400

-- the day of a date: year, month 1 to 12, day of the month from 1
unfoldable pub day_number : ℕ → ℕ → ℕ → ℕ
day_number k m d = year_start k + days_before k m + (d - 1)

-- "1 Monday to 7 Sunday"
abbrev pub weekday_of : ℕ → ℕ
weekday_of n = n % 7 + 1

-- a date, its day, and the date after it
pub record Date : Type 0 where
  pub year : ℕ
  pub month : ℕ
  pub day : ℕ

pub record IsDate (a : Date) : Type 0 where
  pub month-low : 1 ≤ a.month
  pub month-high : a.month ≤ 12
  pub day-low : 1 ≤ a.day
  pub day-high : a.day ≤ month_length a.year a.month

abbrev pub date_number : Date → ℕ
date_number a = day_number a.year a.month a.day

unfoldable pub next_date : Date → Date
next_date a =
    pick (ltb a.day (month_length a.year a.month))
    (record { year = a.year; month = a.month; day = a.day + 1 })
    (pick (ltb a.month 12)
    (record { year = a.year; month = a.month + 1; day = 1 })
    (record { year = a.year + 1; month = 1; day = 1 }))

-- Days are numbered in the order of their dates, from the first, 1 January of year -399. So says day_number, and nothing else does
-- (numbering, only-numbering in proofs/Numbering.antt).
pub record Numbering (f : Date → ℕ) : Type 0 where
  pub first : f (record { year = 0; month = 1; day = 1 }) ≡ 0
  pub next : (a : Date) → IsDate a → f (next_date a) ≡ f a + 1

-- the dates that day_number takes: "same results at every year it takes now"
pub record Taken (a : Date) : Type 0 where
  pub is-date : IsDate a
  pub year-high : a.year < 20000

-- Ask 4: "the next date's number, if it takes that too, is one more, leap days and year ends included"
pub record NextIsOneMore (a : Date) : Type 0 where
  pub one_more : Taken a → Taken (next_date a) → date_number (next_date a) ≡ date_number a + 1

-- k is the year whose days hold n
pub record InYear (n k : ℕ) : Type 0 where
  pub from : year_start k ≤ n
  pub to : n < year_start (k + 1)

-- the year of a day, by an estimate that is at most one too large (year-of and year-one in proofs/Years.antt: it is the one year that holds the day)
unfoldable pub estimate : ℕ → ℕ
estimate n = (400 * n + 699) / 146097

unfoldable pub year_of : ℕ → ℕ
year_of n = pick (leb (year_start (estimate n)) n) (estimate n) (estimate n - 1)
