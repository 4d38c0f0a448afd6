-- Worked orders, computed. Assumes nothing.
use mathlib.Core.Path.{◌≡◌, refl}
use mathlib.Core.List.{[], ◌∷◌, map}
use Rattle.sorting.specs.Sort.{insert, sort_of}
use Rattle.use_order.specs.Order.{mention, mention_all, keys_from, numbers_of, order_of, numbered_from}

-- no use; a tie by number; the most used first; an unused number between
pub orders :
    map order_of ((0 ∷ 0 ∷ []) ∷ (1 ∷ 1 ∷ []) ∷ (1 ∷ 1 ∷ 3 ∷ 1 ∷ []) ∷ (2 ∷ 0 ∷ 5 ∷ 2 ∷ []) ∷ [])
    ≡ [] ∷ (0 ∷ 1 ∷ []) ∷ (2 ∷ 0 ∷ 1 ∷ 3 ∷ []) ∷ (2 ∷ 0 ∷ 3 ∷ []) ∷ []
unfolding order_of keys_from numbers_of sort_of insert
orders = refl

-- mentions counted, and the table of new numbers for the third order above
pub counts : mention_all (0 ∷ 2 ∷ 1 ∷ 2 ∷ 3 ∷ 2 ∷ []) (0 ∷ 0 ∷ 0 ∷ 0 ∷ []) ≡ 1 ∷ 1 ∷ 3 ∷ 1 ∷ []
unfolding mention_all mention
counts = refl

pub table : numbered_from 0 (2 ∷ 0 ∷ 1 ∷ 3 ∷ []) (0 ∷ 0 ∷ 0 ∷ 0 ∷ []) ≡ 1 ∷ 2 ∷ 0 ∷ 3 ∷ []
unfolding numbered_from
table = refl
