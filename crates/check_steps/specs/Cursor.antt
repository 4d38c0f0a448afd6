-- How a cursor and the lent arrays stand for a state of the walk, and what a step says of it. The code's way: internal functions alone use it; what the check gives is said by field_checks/specs/Check.antt.
use Rattle.std.specs.Prelude.{ℕ, ◌≤◌, ◌<◌, ◌≡◌, Bool, List, [], length, drop, ltb}
use Rattle.frames.specs.Machine.{State, state_at, from}
use Rattle.field_checks.specs.Check.{Memory, job, concludes}
use Rattle.field_readers.specs.Remembered.{Indexed, Stands}
use Rattle.check_steps.specs.declared.Cursor.{Cursor}
use Rattle.check_steps.specs.declared.Turn.{Turn}
use Rattle.check_steps.specs.declared.Turn.TheVariants.{Done, Next}

-- a field came before the place: it is past the version's end
abbrev pub seen_at : ℕ → Bool
seen_at at = ltb 4 at

-- the definition's state at a cursor
abbrev pub state_of : List ℕ → Cursor → Memory → State Memory
state_of s c y = state_at c.at (drop c.at s) (seen_at c.at) c.prev y

-- the cursor c and the arrays stand for the memory y
pub record Represents (s : List ℕ) (c : Cursor) (ix od : List ℕ) (y : Memory) : Type 0 where
  pub inside : c.at ≤ length s
  pub indexed : Indexed s c.kept ix
  pub stands : Stands s c.kept od y
  pub place : 0 < c.at → 4 ≤ c.at
  pub fresh : c.at ≤ 4 → y.ids ≡ []

-- a cursor farther on, from which the walk goes as from c
pub record Onward (s : List ℕ) (c : Cursor) (y : Memory) (d : Cursor) (ix od : List ℕ) : Type 0 where
  pub memory : Memory
  pub holds : Represents s d ix od memory
  pub farther : c.at < d.at
  pub same : from job (state_of s c y) ≡ from job (state_of s d memory)

abbrev pub Goes : List ℕ → Cursor → Memory → List ℕ → List ℕ → Turn → Type 0
Goes s c y ix od (Done x) = x ≡ concludes (from job (state_of s c y))
Goes s c y ix od (Next d) = Onward s c y d ix od

pub record Stepped (s : List ℕ) (c : Cursor) (ix od ix' od' : List ℕ) (t : Turn) : Type 0 where
  pub means : (y : Memory) → Represents s c ix od y → Goes s c y ix' od' t
