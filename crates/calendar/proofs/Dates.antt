-- Laws of the dates: the next date, the year of a date, the cycle of 400 years, and where 1970 stands. Assumes nothing.
use mathlib.Core.Path.{◌≡◌, refl}
use mathlib.Core.Bool.{Bool, true, false}
use Prim.Native.Nat.{ℕ, ◌+◌, ◌*◌}
use native.Mathlib.Omega.{arith}
use lib.Dec.{ltb}
use borrow.Author.Tests.{ltb-true, ltb-false}
use Rattle.base.specs.Pick.{pick}
use Rattle.base.specs.Moment.{epoch}
use Rattle.calendar.specs.Calendar.{leap_day, month_length, days_before, year_start, day_number, weekday_of, Date, IsDate, date_number, next_date, InYear, year_of}
use Rattle.calendar.proofs.Years.{year-next, year-400, year-one}
use Rattle.calendar.proofs.Months.{month-next, january, december, month-end, before-400}

next-go : (k m d : ℕ) (a b : Bool) → ltb d (month_length k m) ≡ a → ltb m 12 ≡ b → IsDate (record { year = k; month = m; day = d }) →
    date_number (pick a (record { year = k; month = m; day = d + 1 })
    (pick b (record { year = k; month = m + 1; day = 1 })
    (record { year = k + 1; month = 1; day = 1 }))) ≡ day_number k m d + 1
unfolding day_number
next-go k m d true b p q v = omega arith
next-go k m d false true p q v = omega (arith, ltb-false, month-next k m (ltb-true m 12 q))
next-go k m d false false p q v = omega (arith, ltb-false, december k m (omega (arith, ltb-false m 12 q)), january (k + 1), year-next k)

-- the next date's number is one more: within a month, at the end of a month, after 28 and 29 February, at the end of a year
pub next-date : (a : Date) → IsDate a → date_number (next_date a) ≡ date_number a + 1
unfolding next_date
next-date a v = next-go a.year a.month a.day _ _ refl refl v

-- the year of a date's day is the date's
in-year : (a : Date) → IsDate a → InYear (date_number a) a.year
unfolding day_number
in-year a v =
    record { from = omega arith; to = omega (arith, month-end a.year a.month (omega arith), year-next a.year) }

pub date-year : (a : Date) → IsDate a → a.year ≡ year_of (date_number a)
date-year a v = year-one (date_number a) a.year (in-year a v)

-- 400 years later each date is 146097 days later
pub day-400 : (k m d : ℕ) → day_number (k + 400) m d ≡ day_number k m d + 146097
unfolding day_number
day-400 k m d = omega (arith, year-400 k, before-400 k m)

-- 1970-01-01 is at tick 0 (a day has 864000000000 ticks) and a Thursday; 1 January of year 1 was a Monday
pub epoch-tick : day_number (1970 + 399) 1 1 * 864000000000 ≡ epoch
unfolding day_number days_before leap_day year_start
epoch-tick = refl

pub epoch-weekday : weekday_of (day_number (1970 + 399) 1 1) ≡ 4
unfolding day_number days_before leap_day year_start
epoch-weekday = refl

pub year-1-weekday : weekday_of (day_number (1 + 399) 1 1) ≡ 1
unfolding day_number days_before leap_day year_start
year-1-weekday = refl
