-- Records whose names lie in the trace, and a file whose field 0 was read. The code's way.
use Rattle.std.specs.Prelude.{ℕ, ◌+◌, ◌*◌, ◌≤◌, ◌<◌, true, List, ◌≡◌, length}
use Rattle.frames.specs.Machine.{walk}
use Rattle.answers.specs.Answers.{no_pool}
use Rattle.locate.specs.Asked.{holder}
use Rattle.locate.specs.View.{Lies}
use Rattle.found_zones.specs.declared.FoundZone.{FoundZone}
use Rattle.trace_records.specs.Passed.{walk_to}
use Rattle.traces.specs.Trace.{names_within}

-- n records at a place of the trace s, whose names stand at `names`
pub record Records (s : List ℕ) (names n at : ℕ) : Type 0 where
  pub size : ℕ
  pub few : n < 4294967296
  pub recorded : at + n * 20 ≤ length s
  pub named : names + size ≤ length s
  pub each-name : names_within n at size s ≡ true

-- the data of field 0 are f[d..e], and the walk to each zone goes on behind them
pub record PoolRead (f : List ℕ) (d e : ℕ) : Type 0 where
  pub lies : Lies f d e
  pub walks : (id : List ℕ) → walk (holder id) no_pool f ≡ walk_to f d e id

-- the zone whose data are f[a..b]
abbrev pub reached_zone : ℕ → ℕ → ℕ → ℕ → FoundZone
reached_zone d e a b = record { pool = d; past = e; start = a; end = b; place = 0 }
