-- An instant in range is one from year 1 to year 9999. Assumes nothing.
use mathlib.Core.Path.{◌≡◌, refl}
use mathlib.Core.Bool.{Bool, true, false}
use Prim.Native.Nat.{suc, ◌+◌, ◌-◌, ◌*◌}
use native.Mathlib.Omega.{arith}
use lib.Dec.{T, leb}
use lib.IntN.{ℤ, pos, negsuc, neg_ℤ}
use borrow.Author.Tests.{leb-true}
use Rattle.base.specs.Pick.{pick}
use Rattle.base.specs.Moment.{epoch, first_instant, last_instant}
use Rattle.signed.specs.Instant.{biased_of, ticks_of}
use Rattle.calendar.specs.Calendar.{leap_day, days_before, year_start, day_number}
use Rattle.transitions.specs.Transition.{year1800}
use Rattle.demands.specs.Zones.{InRange, FirstToLast}

pub in-range : (z : ℤ) → InRange z → FirstToLast z
unfolding biased_of
in-range (pos n) h = go (leb n 2534023007999999999) refl h
  where
    go : (t : Bool) → leb n 2534023007999999999 ≡ t → (pick t (n + epoch) 0 ≡ 0 → ⊥) → FirstToLast (pos n)
    go true e k = record { first = record { le = tt }; last = record { le = rw e tt } }
    go false e k = absurd (k refl)
in-range (negsuc n) h = go (leb n 621355967999999999) refl h
  where
    go : (t : Bool) → leb n 621355967999999999 ≡ t → (pick t (epoch - suc n) 0 ≡ 0 → ⊥) → FirstToLast (negsuc n)
    go true e k = record { first = record { le = rw e tt }; last = record { le = tt } }
    go false e k = absurd (k refl)

pub range-in : (z : ℤ) → FirstToLast z → InRange z
unfolding biased_of
range-in (pos n) h e = go (leb n 2534023007999999999) refl h.last.le e
  where
    go : (t : Bool) → leb n 2534023007999999999 ≡ t → T t → pick t (n + epoch) 0 ≡ 0 → ⊥
    go true q k e = omega arith
    go false q k e = k
range-in (negsuc n) h e = go (leb n 621355967999999999) refl h.first.le e
  where
    go : (t : Bool) → leb n 621355967999999999 ≡ t → T t → pick t (epoch - suc n) 0 ≡ 0 → ⊥
    go true q k e = omega (arith, leb-true n 621355967999999999 q)
    go false q k e = k

-- these are the first tick of year 1 and the last of year 9999: years and days are counted from 1 January of year -399
pub year-1 : year_start (1 + 399) * 864000000000 ≡ first_instant
unfolding year_start
year-1 = refl

pub year-9999 : year_start (9999 + 399 + 1) * 864000000000 ≡ last_instant + 1
unfolding year_start
year-9999 = refl

-- "minutes since 1800-01-01T00:00Z (tick -53646624000000000)"
pub year-1800 : day_number (1800 + 399) 1 1 * 864000000000 ≡ year1800
unfolding day_number days_before leap_day year_start
year-1800 = refl

pub tick-1800 : ticks_of year1800 ≡ neg_ℤ (pos 53646624000000000)
tick-1800 = refl
