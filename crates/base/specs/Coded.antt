-- What readers and writers give. To be believed.
use Rattle.std.specs.Prelude.{ℕ, Result}
use Rattle.base.specs.declared.Refusal.{Refusal}

-- a value and how many bytes its code takes, or the place behind it
abbrev pub Coded : Type 0 → Type 0
Coded A = Result (A × ℕ) Refusal

-- "A refusal carries number and place and no name."
abbrev pub Fault : Type 0
Fault = Refusal × ℕ
