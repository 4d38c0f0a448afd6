-- The occurrences before and after an instant, for a function f that gives the occurrence of each year. The properties `IsNext` and `IsLast` are to be believed; the search is the code's way, tied to them by `next-after` and `last-at`
-- (proofs/SearchLaws.antt).
use Rattle.std.specs.Prelude.{◌≡◌, ℕ, zero, suc, ◌+◌, ◌-◌, ◌*◌, ◌/◌, ◌≤◌, ◌<◌, ltb}
use Rattle.base.specs.Pick.{pick}
use Rattle.calendar.specs.Calendar.{year_of}
use Rattle.recurrence.specs.declared.Occurrences.{Occurrences}

-- the ticks of 400 years
abbrev pub cycle : ℕ
cycle = 126227808000000000

-- "over all years", those before year -399 included: every year is the year y, for some c, of the count that starts 400 c years before
-- year -399, and there the instant t is the number t + c * cycle. (Year 0 of a count, which may be cut at tick 0, stands whole as year
-- 400 of the count before it.)

-- n is the "earliest occurrence strictly after" t
pub record IsNext (f : ℕ → ℕ) (t n : ℕ) : Type 0 where
  pub year : ℕ
  pub occurs : n ≡ f year
  pub after : t < n
  pub least : (c y : ℕ) → t + c * cycle < f y → n + c * cycle ≤ f y

-- n is "the latest occurrence at or before" t
pub record IsLast (f : ℕ → ℕ) (t n : ℕ) : Type 0 where
  pub year : ℕ
  pub occurs : n ≡ f year
  pub before : n ≤ t
  pub greatest : (c y : ℕ) → f y ≤ t + c * cycle → f y ≤ n + c * cycle

-- of the years j to j + n, the first whose next occurrence is after t
unfoldable pub search_from : (ℕ → ℕ) → ℕ → ℕ → ℕ → ℕ
search_from f t zero j = j
search_from f t (suc n) j = pick (ltb t (f (j + 1))) j (search_from f t n (j + 1))

-- the year of the latest occurrence at or before t: a rule can spill into the next or the previous year, so it is looked for from two
-- years before the year of t to one after it (next-after and last-at in proofs/SearchLaws.antt: no other year matters)
unfoldable pub year_before : (ℕ → ℕ) → ℕ → ℕ
year_before f t = search_from f t 3 (year_of (t / 864000000000) - 2)

unfoldable pub last_at : (ℕ → ℕ) → ℕ → ℕ
last_at f t = f (year_before f t)

unfoldable pub next_after : (ℕ → ℕ) → ℕ → ℕ
next_after f t = f (year_before f t + 1)

-- both
abbrev pub around : (ℕ → ℕ) → ℕ → Occurrences
around f t = record { last = last_at f t; next = next_after f t }
