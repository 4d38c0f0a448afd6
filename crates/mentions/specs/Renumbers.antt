-- What a change of pool keeps: "All mentions are renumbered ..; every question answers as before". To be believed.
use Rattle.std.specs.Prelude.{ℕ, ◌<◌, ◌≡◌, List, [], length, get_or}

-- the string that the pool ts has under the number k stands in the pool us under the number ρ k
pub record Renumbers (ts us : List (List ℕ)) (ρ : ℕ → ℕ) (k : ℕ) : Type 0 where
  pub inside : ρ k < length us
  pub same : get_or us (ρ k) [] ≡ get_or ts k []
