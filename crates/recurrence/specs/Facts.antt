-- What the laws say of the occurrences of a rule over the years. To be believed.
use Rattle.std.specs.Prelude.{◌≡◌, ℕ, ◌+◌, ◌*◌, ◌≤◌, ◌<◌}
use Rattle.calendar.specs.Calendar.{year_start}
use Rattle.recurrence.specs.Search.{cycle}

-- a function of years that rises, is near its year (from 7 days before its start to 8 days after its end), and repeats after 400 years
pub record Yearly (f : ℕ → ℕ) : Type 0 where
  pub rises : (k : ℕ) → f k < f (k + 1)
  pub low : (k : ℕ) → year_start k * 864000000000 ≤ f k + 7 * 864000000000
  pub high : (k : ℕ) → f k < (year_start (k + 1) + 8) * 864000000000
  pub repeats : (k : ℕ) → 1 ≤ k → f (k + 400) ≡ f k + cycle
