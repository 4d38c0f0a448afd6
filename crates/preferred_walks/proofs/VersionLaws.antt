-- The version that is written. Assumes nothing.
use mathlib.Core.Path.{refl}
use mathlib.Core.List.{List, [], ◌∷◌}
use Prim.Native.Nat.{ℕ, ◌≤◌}
use native.Mathlib.Omega.{arith}
use lib.ListN.{length, set}
use Rattle.pieces.specs.View.{Put}

pub put-version : (d : List ℕ) → 4 ≤ length d → Put (0 ∷ 0 ∷ 0 ∷ 0 ∷ []) d 4 (set (set (set (set d 0 0) 1 0) 2 0) 3 0)
put-version [] h = absurd (omega arith)
put-version (a ∷ []) h = absurd (omega arith)
put-version (a ∷ b ∷ []) h = absurd (omega arith)
put-version (a ∷ b ∷ c ∷ []) h = absurd (omega arith)
put-version (a ∷ b ∷ c ∷ e ∷ d) h = record { size = refl; left = refl }
