-- Where a rule falls: near its year, and later each year. Assumes nothing.
use mathlib.Core.Path.{◌≡◌, refl}
use mathlib.Core.Bool.{Bool, true, false}
use Prim.Native.Nat.{ℕ, ◌+◌, ◌-◌, ◌*◌, ◌≤◌, ◌<◌, min}
use native.Mathlib.Omega.{arith}
use lib.Dec.{eqb, ltb}
use lib.ListN.{get_or}
use borrow.Author.Tests.{ltb-true, eqb-true}
use Rattle.base.specs.Pick.{pick}
use Rattle.base.proofs.Tests.{never}
use Rattle.calendar.specs.Calendar.{leap_day, lengths, befores, month_length, days_before, year_start, day_number}
use Rattle.calendar.proofs.Years.{leap-le, year-next, year-low, year-high}
use Rattle.calendar.proofs.Months.{length-ge, month-le, month-end, month-ge}
use Rattle.rules.specs.declared.Rule.{Rule}
use Rattle.rules.specs.Rules.{RuleOk, most_day}
use Rattle.occurrences.specs.Rules.{month_day, falls_on, occurrence, subtracted}
use Rattle.occurrences.proofs.MoveLaws.{moved-range}

-- a day counted from the end is within the month's shortest length
pub short : (r : Rule) → RuleOk r → r.last ≡ true → r.day ≤ get_or lengths r.month 0
unfolding most_day month_length leap_day
short r ok e = go r.last (eqb r.month 2) e ok.day-high
  where
    go : (b t : Bool) → b ≡ true → r.day ≤ pick b (get_or lengths r.month 0 + pick t 0 0) (get_or lengths r.month 0 + pick t 1 0) → r.day ≤ get_or lengths r.month 0
    go true true e h = omega arith
    go true false e h = omega arith
    go false t e h = never e refl

-- the day of the month is one of the month's
day-one : (n d : ℕ) (last : Bool) → 1 ≤ d → 1 ≤ n → (last ≡ true → d ≤ n) → (1 ≤ pick last (n + 1 - d) (min d n)) × (pick last (n + 1 - d) (min d n) ≤ n)
day-one n d true h g f = omega (arith, f refl)
day-one n d false h g f = omega arith

pub month-day-range : (r : Rule) (k : ℕ) → RuleOk r → (1 ≤ month_day r k) × (month_day r k ≤ month_length k r.month)
unfolding month_day
month-day-range r k ok =
    day-one (month_length k r.month) r.day r.last ok.day-low
    (omega (arith, length-ge r.month ok.month-low (omega arith), month-ge k r.month))
    (λ e. omega (arith, short r ok e, month-ge k r.month))

-- the bound date, before the move
unfoldable pub bound : Rule → ℕ → ℕ
bound r k = day_number k r.month (month_day r k)

pub bound-low : (r : Rule) (k : ℕ) → year_start k ≤ bound r k
unfolding bound day_number
bound-low r k = omega arith

bound-high : (r : Rule) (k : ℕ) → RuleOk r → bound r k < year_start (k + 1)
unfolding bound day_number
bound-high r k ok = omega (arith, month-end k r.month (omega arith), month-day-range r k ok, year-next k)

-- its place in the year sinks by no more than the leap day that the year has
place : (b n d l l' : ℕ) (late february last : Bool) → (late ≡ true → february ≡ true → ⊥) → l ≤ 1 →
    b + pick late l 0 + (pick last (n + pick february l 0 + 1 - d) (min d (n + pick february l 0)) - 1)
    ≤ l + (b + pick late l' 0 + (pick last (n + pick february l' 0 + 1 - d) (min d (n + pick february l' 0)) - 1))
place b n d l l' true true last f h = absurd (f refl refl)
place b n d l l' true false last f h = omega arith
place b n d l l' false true true f h = omega arith
place b n d l l' false true false f h = omega arith
place b n d l l' false false last f h = omega arith

not-both : (m : ℕ) → ltb 2 m ≡ true → eqb m 2 ≡ true → ⊥
not-both m p q = omega (arith, ltb-true, eqb-true)

bound-rises : (r : Rule) (k : ℕ) → bound r k + 365 ≤ bound r (k + 1)
unfolding bound day_number days_before month_day month_length
bound-rises r k =
    omega (arith, year-next k, place (get_or befores r.month 0) (get_or lengths r.month 0) r.day (leap_day k) (leap_day (k + 1)) (ltb 2 r.month) (eqb r.month 2) r.last (not-both r.month) (leap-le k))

-- the day on which the rule falls
plus-le : (b : Bool) → pick b 1 0 ≤ 1
plus-le true = omega arith
plus-le false = omega arith

pub falls-low : (r : Rule) (k : ℕ) → year_start k ≤ falls_on r k + 6
unfolding falls_on bound
falls-low r k = omega (arith, bound-low r k, moved-range r.weekday r.after (bound r k))

falls-high : (r : Rule) (k : ℕ) → RuleOk r → falls_on r k ≤ year_start (k + 1) + 6
unfolding falls_on bound
falls-high r k ok = omega (arith, bound-high r k ok, moved-range r.weekday r.after (bound r k), plus-le r.plus)

falls-rises : (r : Rule) (k : ℕ) → falls_on r k + 353 ≤ falls_on r (k + 1)
unfolding falls_on bound
falls-rises r k =
    omega (arith, bound-rises r k, moved-range r.weekday r.after (bound r k), moved-range r.weekday r.after (bound r (k + 1)))

-- the instant at which the rule falls
pub occurrence-low : (r : Rule) (offset k : ℕ) → offset ≤ 172800000 → year_start k * 864000000000 ≤ occurrence r offset k + 7 * 864000000000
unfolding occurrence
occurrence-low r offset k h = omega (arith, falls-low r k)

pub occurrence-high : (r : Rule) (offset k : ℕ) → RuleOk r → occurrence r offset k < (year_start (k + 1) + 8) * 864000000000
unfolding occurrence
occurrence-high r offset k ok = omega (arith, falls-high r k ok)

pub occurrence-rises : (r : Rule) (offset : ℕ) → offset ≤ 172800000 → (k : ℕ) → occurrence r offset k < occurrence r offset (k + 1)
unfolding occurrence
occurrence-rises r offset h k = omega (arith, falls-rises r k)

pub subtracted-le : (mode wall standard : ℕ) → wall ≤ 172800000 → standard ≤ 172800000 → subtracted mode wall standard ≤ 172800000
unfolding subtracted
subtracted-le mode wall standard h g = go (eqb mode 0) (eqb mode 1)
  where
    go : (a b : Bool) → pick a 86400000 (pick b wall standard) ≤ 172800000
    go true b = omega arith
    go false true = h
    go false false = g

-- what keeps the code's sums in 64 bits
pub record Room (r : Rule) (k : ℕ) : Type 0 where
  pub day-low : 1 ≤ month_day r k
  pub day-high : month_day r k < 32
  pub bound-from : 7 ≤ day_number k r.month (month_day r k)
  pub bound-to : day_number k r.month (month_day r k) < 7000000
  pub falls-from : 7 ≤ falls_on r k
  pub falls-to : falls_on r k < 7000010

pub room : (r : Rule) (k : ℕ) → RuleOk r → 1 ≤ k → k < 19000 → Room r k
unfolding bound
room r k ok l h =
    let a : year_start (k + 1) < 7000000 = omega (arith, year-high (k + 1)) in
    let b : 300 ≤ year_start k = omega (arith, year-low k) in
    record {
      day-low = (month-day-range r k ok).0;
      day-high = omega (arith, month-day-range r k ok, month-le k r.month (omega arith));
      bound-from = omega (arith, bound-low r k);
      bound-to = omega (arith, bound-high r k ok);
      falls-from = omega (arith, falls-low r k);
      falls-to = omega (arith, falls-high r k ok);
    }
