-- A rule and its ranges. To be believed.
use Rattle.std.specs.Prelude.{Bool, ℕ, ◌+◌, ◌≤◌, ◌<◌}
use Rattle.base.specs.Pick.{pick}
use Rattle.calendar.specs.Calendar.{month_length}
use Rattle.rules.specs.declared.Rule.{Rule}

-- "Days: 1 to the month's longest length, or -1 (last) down to minus its shortest length": the lengths in 2024 and in 2023
unfoldable pub most_day : ℕ → Bool → ℕ
most_day m last = pick last (month_length (2023 + 399) m) (month_length (2024 + 399) m)

-- a rule's ranges: MM 0 to 2, DDD 0 to 7, a month, a day as above, a time "from 00:00 to below 24:00"
pub record RuleOk (r : Rule) : Type 0 where
  pub mode-high : r.mode ≤ 2
  pub weekday-high : r.weekday ≤ 7
  pub month-low : 1 ≤ r.month
  pub month-high : r.month ≤ 12
  pub day-low : 1 ≤ r.day
  pub day-high : r.day ≤ most_day r.month r.last
  pub time-high : r.time < 86400000
