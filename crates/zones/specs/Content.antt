-- What a zone says. Offsets are milliseconds with 86,400,000 added, as in the file; texts are pool numbers; starts and ends are
-- moments (base's specs/Moment.antt). To be believed.
use Rattle.std.specs.Prelude.{ℕ, List}
use Rattle.intervals.specs.declared.Interval.{Interval}
use Rattle.tails.specs.declared.NamedTail.{NamedTail}

-- "tail byte 0 or 1; the tail if 1"
pub data Ending : Type 0 where
  untailed : Ending
  tailed : NamedTail → Ending

-- "absent and present-but-equal stay two contents": the name of a fixed zone, where it has one
pub data FixedName : Type 0 where
  absent : FixedName
  present : ℕ → FixedName

-- "Flag 1, fixed: offset, then name", which may be absent; "Flag 2: .. intervals ..; then the end transition; tail byte .."
pub data Body : Type 0 where
  fixed : ℕ → FixedName → Body
  listed : List Interval → ℕ → Ending → Body

-- "A zone is ID, flag, rest"
pub record Zone : Type 0 where
  pub id : ℕ
  pub body : Body
