-- Where the window of two sides may end. The code's way, tied to the window by `short-stretches` (proofs/WindowLaws.antt).
use Rattle.std.specs.Prelude.{ℕ, min, List}
use Rattle.same_tails.specs.SameTails.{same_from}
use Rattle.differences.specs.View.{pool_of}
use Rattle.differences.specs.declared.Side.{Side}

abbrev pub end_of : List ℕ → Side → List ℕ → Side → ℕ → ℕ
end_of f x g y last = min last (same_from (pool_of f x) x.ending (pool_of g y) y.ending)
