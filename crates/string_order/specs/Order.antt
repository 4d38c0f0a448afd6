-- The order of byte strings: by the first byte in which two differ, and a string before those that it begins. The code's way: it is the
-- order in which strings are kept, and nothing that a caller sees depends on it. equal-is-equality, less-trans and greater-less in
-- proofs/OrderLaws.antt say that it is a total order.
use Rattle.std.specs.Prelude.{ℕ, List, [], ◌∷◌, ltb}
use Rattle.base.specs.Pick.{pick}
use Rattle.std.specs.declared.cmp.Ordering.{Ordering}
use Rattle.std.specs.declared.cmp.Ordering.TheVariants.{Less, Equal, Greater}

unfoldable pub ordering : List ℕ → List ℕ → Ordering
ordering [] [] = Equal
ordering [] (b ∷ t) = Less
ordering (a ∷ s) [] = Greater
ordering (a ∷ s) (b ∷ t) = pick (ltb a b) Less (pick (ltb b a) Greater (ordering s t))

-- the first of two that tells strings apart
abbrev pub and_then : Ordering → Ordering → Ordering
and_then Less o = Less
and_then Equal o = o
and_then Greater o = Greater
