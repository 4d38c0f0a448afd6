-- Numbers that stand at their own places. Assumes nothing.
use mathlib.Core.Path.{◌≡◌}
use mathlib.Core.Bool.{true, false}
use mathlib.Core.List.{List}
use Prim.Native.Nat.{ℕ, ◌+◌, ◌≤◌, ◌<◌}
use native.Mathlib.Omega.{arith}
use lib.ListN.{length, get_or}
use Rattle.base.proofs.Tests.{clash, by_order}
use Rattle.closed_walks.specs.View.{InPlace}

-- the first i numbers do
pub record InPlaceTo (order : List ℕ) (i : ℕ) : Type 0 where
  pub at_place : (j : ℕ) → j < i → get_or order j 0 ≡ j

module _ (order : List ℕ) where
  pub place-start : InPlaceTo order 0
  place-start = record { at_place = λ j h. absurd (omega arith) }

  pub place-next : (i : ℕ) → InPlaceTo order i → get_or order i 0 ≡ i → InPlaceTo order (i + 1)
  place-next i p e = record { at_place = λ j h. by_order j i (p.at_place j) (λ l. let z : j ≡ i = omega arith in rw z e) }

  pub place_end : (i : ℕ) → InPlaceTo order i → length order ≤ i → InPlace true order
  place_end i p h = record { at_place = λ e j l. p.at_place j (omega arith) }

  pub out-of-place : InPlace false order
  out-of-place = record { at_place = λ e j l. clash cc }
