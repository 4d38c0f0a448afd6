-- Where a rule falls. A year and a day are counted from 1 January of year -399 (calendar's specs/Calendar.antt), an instant is a
-- count of ticks from there, and an offset is in milliseconds with 86,400,000 added. To be believed.
use Rattle.std.specs.Prelude.{◌≡◌, Bool, ℕ, ◌+◌, ◌-◌, ◌*◌, ◌%◌, ◌≤◌, min, eqb}
use Rattle.base.specs.Pick.{pick}
use Rattle.calendar.specs.Calendar.{month_length, day_number, weekday_of}
use Rattle.rules.specs.declared.Rule.{Rule}

-- the day of the month: -1 is the last; "29 February is the 28th in common years"
unfoldable pub month_day : Rule → ℕ → ℕ
month_day r k = pick r.last (month_length k r.month + 1 - r.day) (min r.day (month_length k r.month))

-- "With a weekday, move to the nearest one on or after (A set) or on or before, the bound date itself counting"
pub record IsOnOrAfter (w n d : ℕ) : Type 0 where
  pub on : weekday_of d ≡ w
  pub from : n ≤ d
  pub nearest : (e : ℕ) → weekday_of e ≡ w → n ≤ e → d ≤ e

pub record IsOnOrBefore (w n d : ℕ) : Type 0 where
  pub on : weekday_of d ≡ w
  pub to : d ≤ n
  pub nearest : (e : ℕ) → weekday_of e ≡ w → e ≤ n → e ≤ d

-- the same computed (is-on-or-after and is-on-or-before in proofs/MoveLaws.antt)
unfoldable pub on_or_after : ℕ → ℕ → ℕ
on_or_after w n = n + (w + 7 - weekday_of n) % 7

unfoldable pub on_or_before : ℕ → ℕ → ℕ
on_or_before w n = n - (weekday_of n + 7 - w) % 7

unfoldable pub moved : ℕ → Bool → ℕ → ℕ
moved w after n = pick (eqb w 0) n (pick after (on_or_after w n) (on_or_before w n))

-- the day on which the rule falls in a year: "Then add a day if P is set"
unfoldable pub falls_on : Rule → ℕ → ℕ
falls_on r k = moved r.weekday r.after (day_number k r.month (month_day r k)) + pick r.plus 1 0

-- the instant at which it falls, "then the time", less an offset. The day added at the front is the 86,400,000 ms in the offset
unfoldable pub occurrence : Rule → ℕ → ℕ → ℕ
occurrence r offset k = (falls_on r k + 1) * 864000000000 + r.time * 10000 - offset * 10000

-- "Subtract nothing (UTC), the standard offset, or (wall) the wall offset of the other rule"
unfoldable pub subtracted : ℕ → ℕ → ℕ → ℕ
subtracted mode wall standard = pick (eqb mode 0) 86400000 (pick (eqb mode 1) wall standard)
