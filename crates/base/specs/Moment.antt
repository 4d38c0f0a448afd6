-- Instants and the two marks as one kind of number, a moment. To be believed.
-- An instant is the count of ticks since 1 January of year -399: 400 Gregorian years are exactly 20,871 weeks, so leap years and
-- weekdays go on from there as from year 1, and no number is negative. A mark is the number just outside the instants that
-- puts it in its order, so an interval holds t exactly when its start is at most t and t is below its end.
use Rattle.std.specs.Prelude.{ℕ, ◌≤◌, Bool, ◌⊎◌, ◌≡◌, leb}
use Rattle.base.specs.Pick.{both}

-- 1970-01-01T00:00Z
abbrev pub epoch : ℕ
epoch = 747583776000000000

-- "Finite ones run from -621355968000000000 (year 1) to 2534023007999999999 (end of 9999)"
abbrev pub first_instant : ℕ
first_instant = 126227808000000000

abbrev pub last_instant : ℕ
last_instant = 3281606783999999999

-- "besides the marks 'start of time' and 'end of time'"
abbrev pub start_of_time : ℕ
start_of_time = 0

abbrev pub end_of_time : ℕ
end_of_time = 3281606784000000000

pub record Finite (t : ℕ) : Type 0 where
  pub low : first_instant ≤ t
  pub high : t ≤ last_instant

abbrev pub finite : ℕ → Bool
finite t = both (leb first_instant t) (leb t last_instant)

-- a mark or an instant
abbrev pub Moment : ℕ → Type 0
Moment m = (m ≡ start_of_time) ⊎ ((m ≡ end_of_time) ⊎ Finite m)
