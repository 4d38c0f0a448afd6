-- What the functions on a field rely on. The code's way: internal functions alone use it.
use Rattle.std.specs.Prelude.{ℕ, ◌≤◌, ◌≡◌, Bool, true, List, length}
use Rattle.base.specs.All.{All}
use Rattle.use_order.specs.Order.{new_number}
use Rattle.renumbering.specs.Run.{Small}
use Rattle.closed_pools.specs.View.{GoodPool}

-- an order of pool numbers and a table of new ones, for a field's data
pub record Sized (order table d : List ℕ) : Type 0 where
  pub few : length order ≤ 8192
  pub small : Small table
  pub short : length d ≤ 4194304

-- where kept holds, each of some mentioned numbers is its own new number
pub record NumbersKept (kept : Bool) (table ks : List ℕ) : Type 0 where
  pub stay : kept ≡ true → All (λ k. new_number table k ≡ k) ks

-- the data d of a field with the ID i, where that is a pool's, are a pool that the check takes
pub record PoolChecked (i : ℕ) (d : List ℕ) : Type 0 where
  pub good : i ≡ 0 → GoodPool d
