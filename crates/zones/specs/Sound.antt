-- What holds of the content of a well-formed zone. To be believed; `zone-sound` (proofs/SoundLaws.antt) shows it of what is read.
use Rattle.std.specs.Prelude.{ℕ, ◌+◌, ◌≤◌, ◌<◌, ◌≡◌, List, length}
use Rattle.base.specs.Parsed.{behind}
use Rattle.base.specs.Moment.{Finite, end_of_time}
use Rattle.intervals.specs.declared.Interval.{Interval}
use Rattle.intervals.specs.Interval.{start_of}
use Rattle.intervals.specs.Sound.{ListOk}
use Rattle.tails.specs.Sound.{NamedTailOk}
use Rattle.zones.specs.declared.Found.{Found}
use Rattle.zones.specs.Content.{Ending, untailed, tailed, FixedName, absent, present, Body, fixed, listed, Zone}

-- "Without a tail the end is end of time; with one it is finite and after the last start"
abbrev pub EndOk : ℕ → List Interval → ℕ → Ending → Type 0
EndOk pool is end untailed = end ≡ end_of_time
EndOk pool is end (tailed n) = (behind start_of end_of_time is < end) × Finite end × NamedTailOk pool end n

-- the name of a fixed zone, where it has one, is a number of the pool
abbrev pub FixedNameOk : ℕ → FixedName → Type 0
FixedNameOk pool absent = Unit {0}
FixedNameOk pool (present n) = n < pool

-- "4,096 intervals a zone"
abbrev pub BodyOk : ℕ → Body → Type 0
BodyOk pool (fixed offset n) = (1 ≤ offset) × (offset ≤ 172799999) × FixedNameOk pool n
BodyOk pool (listed is end e) = ListOk pool is × EndOk pool is end e × (length is ≤ 4096)

-- pool is the pool's count
pub record Sound (pool : ℕ) (z : Zone) : Type 0 where
  pub id-ok : z.id < pool
  pub body_ok : BodyOk pool z.body

-- an answer's name is a number of the pool, and its offsets are inside 24 hours; so is wall minus savings
pub record FoundOk (pool : ℕ) (x : Found) : Type 0 where
  pub name-ok : x.name < pool
  pub wall-high : x.wall < 172800000
  pub savings-high : x.savings < 172800000
  pub standard-low : x.savings < x.wall + 86400000
  pub standard-high : x.wall < x.savings + 86400000
