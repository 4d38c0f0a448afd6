-- What the code's results stand for. The code's way, tied to the content of field 3 by `Turned` itself.
use Rattle.base.specs.declared.Refusal.{Refusal}
use Rattle.std.specs.Prelude.{ℕ, ◌+◌, ◌≤◌, ◌≡◌, List, [], ◌∷◌, ◌++◌, length, drop, Err, Ok, Result}
use Rattle.base.specs.Parsed.{Parsed, got, bad}
use Rattle.ids.specs.Memory.{Keeps}
use Rattle.aliases.specs.Dictionary.{Entry, Dictionary, keys}
use Rattle.aliases.specs.Field.{parse_entry}

-- what the check says of a content
abbrev pub verdict_of : Parsed Dictionary → Result (Unit {0}) Refusal
verdict_of (got es r) = Ok tt
verdict_of (bad n) = Err n

-- the next entry of the data d, behind pre: it is read, and the first n numbers of the array od stand for its key too
abbrev pub TurnTo : List (List ℕ) → List ℕ → Parsed Entry → Dictionary → List ℕ → ℕ → Result ℕ Refusal → Type 0
TurnTo ts d p pre od n (Ok e) = (e ≤ length d) × (x : Entry) × (p ≡ got x (drop e d)) × Keeps ts od n (keys (pre ++ (x ∷ [])))
TurnTo ts d p pre od n (Err k) = p ≡ bad k

pub record Turned (ts : List (List ℕ)) (d : List ℕ) (at : ℕ) (od : List ℕ) (n : ℕ) (od' : List ℕ) (r : Result ℕ Refusal) : Type 0 where
  pub means : (pre : Dictionary) → Keeps ts od n (keys pre) → TurnTo ts d (parse_entry ts pre (drop at d)) pre od' (n + 1) r
