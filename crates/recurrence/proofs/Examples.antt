-- Both worked rules of 01, and a tail, computed. Assumes nothing.
use mathlib.Core.Path.{◌≡◌, refl}
use mathlib.Core.Bool.{true, false}
use Prim.Native.Nat.{◌+◌, ◌-◌, ◌*◌}
use native.Mathlib.Omega.{arith}
use Rattle.base.specs.Moment.{epoch}
use Rattle.calendar.specs.Calendar.{leap_day, month_length, days_before, year_start, day_number, estimate, year_of}
use Rattle.rules.specs.declared.Rule.{Rule}
use Rattle.recurrence.specs.declared.Tail.{Tail}
use Rattle.rules.specs.Rules.{most_day}
use Rattle.occurrences.specs.Rules.{month_day, on_or_after, on_or_before, moved, falls_on, occurrence, subtracted}
use Rattle.rules.specs.Fields.{byte_ok, month_ok, day_ok, time_ok, rule_of, FieldsOk, sum_ok}
use Rattle.recurrence.specs.Search.{search_from, year_before, last_at, next_after}
use Rattle.recurrence.specs.Tails.{TailOk, standard_in, daylight_in, lookup}
use Rattle.rules.proofs.FieldLaws.{rule-ok}

-- "Rule 1C 03 01 32 (last Sunday of March, 01:00 UTC)": 32 is +01:00, with 86,400,000 added
abbrev pub last_sunday_of_march : Rule
last_sunday_of_march = rule_of 0x1C 3 1 90000000

pub last-sunday-ok : FieldsOk 0x1C 3 1 90000000
unfolding byte_ok month_ok day_ok time_ok most_day month_length leap_day
last-sunday-ok = record { byte-ok = refl; month-ok = refl; day-ok = refl; time-ok = refl }

-- "falls on 2024-03-31, Unix second 1711846800"
pub last-sunday-day : falls_on last_sunday_of_march (2024 + 399) ≡ day_number (2024 + 399) 3 31
unfolding falls_on moved on_or_after on_or_before month_day day_number days_before month_length leap_day year_start
last-sunday-day = refl

pub last-sunday-tick : occurrence last_sunday_of_march (subtracted 0 0 0) (2024 + 399) ≡ epoch + 1711846800 * 10000000
unfolding occurrence subtracted falls_on moved on_or_after on_or_before month_day day_number days_before month_length leap_day year_start
last-sunday-tick = refl

-- "Rule 3E 03 10 34 (Sunday on or after 8 March, 02:00 wall)": 34 is +02:00
abbrev pub sunday_from8_march : Rule
sunday_from8_march = rule_of 0x3E 3 0x10 93600000

pub sunday-from-8-ok : FieldsOk 0x3E 3 0x10 93600000
unfolding byte_ok month_ok day_ok time_ok most_day month_length leap_day
sunday-from-8-ok = record { byte-ok = refl; month-ok = refl; day-ok = refl; time-ok = refl }

-- "falls on 2024-03-10"
pub sunday-from-8-day : falls_on sunday_from8_march (2024 + 399) ≡ day_number (2024 + 399) 3 10
unfolding falls_on moved on_or_after on_or_before month_day day_number days_before month_length leap_day year_start
sunday-from-8-day = refl

-- A rule that spills into the year before: 1 January, 00:00 standard time, ten hours ahead of UTC. At that instant of 31 December 2024
-- the latest occurrence is the one of 2025.
abbrev pub new_year : Rule
new_year = rule_of 0x40 1 2 86400000

pub new-year-ok : FieldsOk 0x40 1 2 86400000
unfolding byte_ok month_ok day_ok time_ok most_day month_length leap_day
new-year-ok = record { byte-ok = refl; month-ok = refl; day-ok = refl; time-ok = refl }

pub new-year-spills :
    last_at (occurrence new_year (subtracted 2 0 122400000)) (day_number (2025 + 399) 1 1 * 864000000000 - 36000000 * 10000)
    ≡ day_number (2025 + 399) 1 1 * 864000000000 - 36000000 * 10000
unfolding last_at year_before search_from year_of estimate occurrence subtracted falls_on moved on_or_after on_or_before month_day day_number days_before month_length leap_day year_start
new-year-spills = refl

-- A tail in its ranges: London from 1970 on, and its lookup just before and at the change of 2024-03-31: the instant of a change
-- belongs to the new interval
abbrev pub london : Tail
london =
    record {
      start = epoch;
      offset = 86400000;
      savings = 90000000;
      standard = rule_of 0x1C 10 1 90000000;
      daylight = last_sunday_of_march;
    }

last-of-october-ok : FieldsOk 0x1C 10 1 90000000
unfolding byte_ok month_ok day_ok time_ok most_day month_length leap_day
last-of-october-ok = record { byte-ok = refl; month-ok = refl; day-ok = refl; time-ok = refl }

pub london-ok : TailOk london
unfolding sum_ok
london-ok =
    record {
      start-ok = record { low = omega arith; high = omega arith };
      offset-high = omega arith;
      sum-ok = refl;
      standard-ok = rule-ok 0x1C 10 1 90000000 last-of-october-ok;
      daylight-ok = rule-ok 0x1C 3 1 90000000 last-sunday-ok;
    }

pub london-before :
    lookup london (epoch + 1711846800 * 10000000 - 1) ≡ record {
      daylight = false;
      wall = 86400000;
      savings = 86400000;
      start = epoch + 1698541200 * 10000000;
      end = epoch + 1711846800 * 10000000;
    }
unfolding lookup last_at next_after year_before search_from year_of estimate standard_in daylight_in occurrence subtracted falls_on moved on_or_after on_or_before month_day day_number days_before month_length leap_day year_start
london-before = refl

pub london-at :
    lookup london (epoch + 1711846800 * 10000000) ≡ record {
      daylight = true;
      wall = 90000000;
      savings = 90000000;
      start = epoch + 1711846800 * 10000000;
      end = epoch + 1729990800 * 10000000;
    }
unfolding lookup last_at next_after year_before search_from year_of estimate standard_in daylight_in occurrence subtracted falls_on moved on_or_after on_or_before month_day day_number days_before month_length leap_day year_start
london-at = refl
