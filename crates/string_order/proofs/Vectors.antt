-- Computed orders of strings. Assumes nothing.
use mathlib.Core.Path.{◌≡◌, refl}
use mathlib.Core.List.{List, [], ◌∷◌}
use Rattle.string_order.specs.Order.{ordering}
use Rattle.std.specs.declared.cmp.Ordering.{Ordering}
use Rattle.std.specs.declared.cmp.Ordering.TheVariants.{Less, Equal, Greater}

-- none and none; A and none; A and AB; B and AB; two bytes of which the higher is above 127; AB and AB
pub orders : ◌≡◌ {A = List Ordering}
    (ordering [] []
    ∷ ordering (65 ∷ []) []
    ∷ ordering (65 ∷ []) (65 ∷ 66 ∷ [])
    ∷ ordering (66 ∷ []) (65 ∷ 66 ∷ [])
    ∷ ordering (122 ∷ []) (195 ∷ [])
    ∷ ordering (65 ∷ 66 ∷ []) (65 ∷ 66 ∷ [])
    ∷ [])
    (Equal ∷ Greater ∷ Less ∷ Greater ∷ Less ∷ Equal ∷ [])
unfolding ordering
orders = refl
