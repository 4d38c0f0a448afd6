-- How far a field goes, by its size. The code's way: span-ends (proofs/FieldLaws.antt) ties it to the walk over frames.
use Rattle.base.specs.Coded.{Coded}
use Rattle.std.specs.Prelude.{ℕ, ◌+◌, Err, Ok}

-- the length of a size and of the data that it tells, by what reading it gives; 0 where it gives none
abbrev pub span_of : Coded ℕ → ℕ
span_of (Ok (v, u)) = u + v
span_of (Err k) = 0
