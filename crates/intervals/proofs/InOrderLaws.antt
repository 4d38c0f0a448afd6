-- The stages of an interval are what the paper says in its order. Assumes nothing.
use mathlib.Core.Path.{◌≡◌, refl}
use Prim.Native.Nat.{ℕ}
use mathlib.Core.List.{List}
use Rattle.intervals.specs.Interval.{judge_standard, after_wall, after_name, parse_details, after_start, parse_interval}
use Rattle.intervals.specs.InOrder.{interval_in_order}

pub interval-stages : (pool prev : ℕ) (s : List ℕ) → interval_in_order pool prev s ≡ parse_interval pool prev s
unfolding interval_in_order judge_standard after_wall after_name parse_details after_start parse_interval
interval-stages pool prev s = refl
