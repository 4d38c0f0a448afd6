-- What a question that means "this is all" gives on a well-formed file. To be believed.
use Rattle.std.specs.Prelude.{ℕ, List, ℤ, length}
use Rattle.std.proofs.Math.Option.{Option, none, some}
use Rattle.base.specs.Numbers.{GivenBack, answering, refusing}
use Rattle.frames.specs.Fields.{fields, first_above}

-- the place of "no such zone": "For 12 by a higher ID it is that ID byte", and else "the bytes' end where no field has begun"
abbrev pub or_end : List ℕ → Option ℕ → ℕ
or_end f none = length f
or_end f (some q) = q

abbrev pub absent_at : List ℕ → ℕ
absent_at f = or_end f (first_above 1 (fields f))

-- an answer, "no such zone", or "asked instant outside year 1 to 9999", with their places
pub data Agrees (f : List ℕ) : GivenBack → Type 0 where
  answers : {vs : List ℤ} → Agrees f (answering vs)
  no-zone : Agrees f (refusing 12 (absent_at f))
  no-instant : Agrees f (refusing 14 0)
