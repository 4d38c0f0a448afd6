-- What holds of the listed intervals of a well-formed zone. To be believed; `list-sound` (proofs/SoundLaws.antt) shows it of what is read.
use Rattle.std.specs.Prelude.{ℕ, ◌+◌, ◌≤◌, ◌<◌, ◌≡◌, List, [], ◌∷◌}
use Rattle.base.specs.Moment.{Finite, start_of_time}
use Rattle.intervals.specs.declared.Interval.{Interval}

-- the name is a number of the pool, and the offsets are inside 24 hours; so is wall minus savings: neither is 24 hours or more above the other
pub record Ranged (pool : ℕ) (i : Interval) : Type 0 where
  pub name-ok : i.name < pool
  pub wall-high : i.wall ≤ 172799999
  pub savings-high : i.savings ≤ 172799999
  pub standard-low : i.savings < i.wall + 86400000
  pub standard-high : i.wall < i.savings + 86400000

-- "later ones finite and strictly rising"
pub record LaterOk (pool prev : ℕ) (i : Interval) : Type 0 where
  pub rises : prev < i.start
  pub finite : Finite i.start
  pub ranged : Ranged pool i

abbrev pub Rising : ℕ → ℕ → List Interval → Type 0
Rising pool prev [] = Unit {0}
Rising pool prev (i ∷ is) = LaterOk pool prev i × Rising pool i.start is

-- "The first start is start of time"; there is one interval at least
abbrev pub ListOk : ℕ → List Interval → Type 0
ListOk pool [] = ⊥
ListOk pool (i ∷ is) = (i.start ≡ start_of_time) × Ranged pool i × Rising pool i.start is
