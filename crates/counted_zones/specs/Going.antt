-- What counting names relies on and leaves. The code's way.
use Rattle.std.specs.Prelude.{ℕ, zero, suc, ◌+◌, ◌-◌, ◌*◌, ◌≤◌, ◌<◌, ◌≡◌, Bool, true, List, length, get_or}
use Rattle.use_order.specs.Order.{mention, mention_all}
use Rattle.mention_runs.specs.Run.{Room}
use Rattle.counted_zones.specs.Steps.{number_at, number_end, moment_end, interval_end, list_names, list_end}

-- n intervals stand from the place p on: with the uses w and their names the uses are `whole` in the end, at the place `end`
pub record Going (s whole : List ℕ) (end size p n : ℕ) (w : List ℕ) : Type 0 where
  pub ends : list_end s p n ≡ end
  pub same : mention_all (list_names s p n) w ≡ whole
  pub all : length w ≡ size
  pub room : Room w (length s - p)

-- where r holds, an interval of five bytes with the name k stands at a place
pub record IsFive (s : List ℕ) (p k : ℕ) (r : Bool) : Type 0 where
  pub name : r ≡ true → number_at s (moment_end s p) ≡ k
  pub ends : r ≡ true → interval_end s p ≡ p + 5

-- where r holds, an interval in ticks with a byte each for name and offsets stands at a place
pub record IsTick (s : List ℕ) (p : ℕ) (r : Bool) : Type 0 where
  pub name : r ≡ true → number_at s (moment_end s p) ≡ get_or s (p + 9) 0
  pub ends : r ≡ true → interval_end s p ≡ p + 12

-- n uses more of k
unfoldable pub mention_times : ℕ → ℕ → List ℕ → List ℕ
mention_times k zero u = u
mention_times k (suc n) u = mention k (mention_times k n u)

-- n pairs of intervals of five bytes with the names j and k stand from the place p on, whatever follows
pub record Pairs (s : List ℕ) (p j k n : ℕ) : Type 0 where
  pub ends : (m : ℕ) → list_end s p (2 * n + m) ≡ list_end s (p + 10 * n) m
  pub names : (m : ℕ) (u : List ℕ)
      → mention_all (list_names s p (2 * n + m)) u ≡ mention_all (list_names s (p + 10 * n) m) (mention_times k n (mention_times j n u))

-- the name at a place counted, with the place e behind it
pub record NameCounted (s : List ℕ) (p : ℕ) (u : List ℕ) (e : ℕ) (w : List ℕ) : Type 0 where
  pub place : e ≡ number_end s p
  pub uses : w ≡ mention (number_at s p) u
