-- The rules repeat after 400 years: where the count of years starts makes no difference. Assumes nothing.
use mathlib.Core.Path.{◌≡◌, ap}
use Prim.Native.Nat.{ℕ, ◌+◌, ◌≤◌}
use native.Mathlib.Omega.{arith}
use Rattle.calendar.proofs.Years.{year-low}
use Rattle.calendar.proofs.Months.{month-400}
use Rattle.calendar.proofs.Dates.{day-400}
use Rattle.rules.specs.declared.Rule.{Rule}
use Rattle.occurrences.specs.Rules.{month_day, moved, falls_on, occurrence}
use Rattle.recurrence.specs.Search.{cycle}
use Rattle.occurrences.proofs.MoveLaws.{moved-400}
use Rattle.occurrences.proofs.RuleLaws.{bound, bound-low, falls-low}

month-day-400 : (r : Rule) (k : ℕ) → month_day r (k + 400) ≡ month_day r k
unfolding month_day
month-day-400 r k = rw (month-400 k r.month)

bound-400 : (r : Rule) (k : ℕ) → bound r (k + 400) ≡ bound r k + 146097
unfolding bound
bound-400 r k = rw (month-day-400 r k) (day-400 k r.month (month_day r k))

falls-400 : (r : Rule) (k : ℕ) → 1 ≤ k → falls_on r (k + 400) ≡ falls_on r k + 146097
unfolding falls_on bound
falls-400 r k l =
    let h : 7 ≤ bound r k = omega (arith, bound-low r k, year-low k) in
    omega (arith, ap (moved r.weekday r.after) (bound-400 r k), moved-400 r.weekday r.after (bound r k) h)

pub occurrence-400 : (r : Rule) (offset : ℕ) → offset ≤ 172800000 → (k : ℕ) → 1 ≤ k → occurrence r offset (k + 400) ≡ occurrence r offset k + cycle
unfolding occurrence
occurrence-400 r offset h k l = omega (arith, falls-400 r k l, falls-low r k, year-low k)
