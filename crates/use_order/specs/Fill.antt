-- What the functions leave in lent arrays. The code's way.
use Rattle.std.specs.Prelude.{ℕ, ◌+◌, ◌≡◌, List, ◌++◌, length, drop, set, ltb}
use Rattle.base.specs.Pick.{pick}
use Rattle.use_order.specs.Order.{key_of, keys_from, order_of}

-- a number k with u uses, behind n keys
pub record Put (u k n : ℕ) (before : List ℕ) (r : ℕ) (after : List ℕ) : Type 0 where
  pub count : r ≡ pick (ltb 0 u) (n + 1) n
  pub keys : after ≡ pick (ltb 0 u) (set before n (key_of u k)) before

pub record Filled (uses before : List ℕ) (n : ℕ) (after : List ℕ) : Type 0 where
  pub count : n ≡ length (keys_from 0 uses)
  pub keys : after ≡ keys_from 0 uses ++ drop n before

pub record Ordered (uses before : List ℕ) (n : ℕ) (after : List ℕ) : Type 0 where
  pub count : n ≡ length (order_of uses)
  pub order : after ≡ order_of uses ++ drop n before
