-- The place of a byte in a list of bytes, and parts of a list.
use Rattle.std.specs.Prelude.{ℕ, suc, Bool, true, false, List, [], ◌∷◌, eqb, take, drop}

-- the place behind a first byte, which is the one that is looked for or not, where the rest has it at k
unfoldable pub index_after : Bool → ℕ → ℕ
index_after true k = 0
index_after false k = suc k

-- the place of the first b, or the length where none is there
unfoldable pub index_of : ℕ → List ℕ → ℕ
index_of b [] = 0
index_of b (x ∷ r) = index_after (eqb x b) (index_of b r)

-- the elements from the place a up to the place e
unfoldable pub slice : ℕ → ℕ → List ℕ → List ℕ
slice a e s = drop a (take e s)
