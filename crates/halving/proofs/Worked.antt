-- Tables worked through. Assumes nothing.
use Rattle.base.specs.declared.Refusal.TheVariants.{NotFound}
use Rattle.base.specs.Coded.{Fault}
use Rattle.std.specs.Prelude.{Err, Ok, Result, ℕ}
use mathlib.Core.Path.{◌≡◌, refl}
use mathlib.Core.List.{List, [], ◌∷◌}
use lib.IntN.{ℤ, pos, negsuc}
use Rattle.halving.specs.Halving.{halve, find_start}

pub record Case : Type 0 where
  pub table : List ℤ
  pub instant : ℤ
  pub found : Result (ℕ × ℕ) Fault

pub cases : List Case
cases =
    record { table = []; instant = pos 5; found = Err (NotFound, 0) }
    ∷ record { table = pos 9 ∷ []; instant = pos 5; found = Ok (0, 0) }
    ∷ record { table = pos 1 ∷ pos 2 ∷ pos 3 ∷ []; instant = pos 0; found = Ok (0, 1) }
    ∷ record { table = pos 1 ∷ pos 2 ∷ pos 3 ∷ []; instant = pos 2; found = Ok (1, 2) }
    ∷ record { table = pos 9 ∷ pos 1 ∷ pos 9 ∷ pos 1 ∷ []; instant = pos 5; found = Ok (1, 2) }
    ∷ record { table = pos 5 ∷ pos 5 ∷ pos 5 ∷ pos 5 ∷ []; instant = pos 5; found = Ok (3, 2) }
    ∷ record { table = negsuc 9223372036854775807 ∷ negsuc 4 ∷ pos 5 ∷ []; instant = negsuc 0; found = Ok (1, 2) }
    ∷ []

unfoldable pub given : List Case → List (Result (ℕ × ℕ) Fault)
given [] = []
given (x ∷ xs) = find_start x.table x.instant ∷ given xs

unfoldable pub expected : List Case → List (Result (ℕ × ℕ) Fault)
expected [] = []
expected (x ∷ xs) = x.found ∷ expected xs

pub worked : given cases ≡ expected cases
unfolding find_start halve given expected cases
worked = refl
