-- An interval in the paper's order, one definition: what a reader is to believe of `parse_interval` (Interval.antt), which is the same by
-- `interval-stages` (proofs/InOrderLaws.antt).
use Rattle.base.specs.declared.Refusal.TheVariants.{BadInterval}
use Rattle.std.specs.Prelude.{ℕ, List}
use Rattle.base.specs.Pick.{pick}
use Rattle.base.specs.Parsed.{Parsed, got, bad, bind, parse}
use Rattle.offsets.specs.Offset.{in_day, read_sum}
use Rattle.transitions.specs.Transition.{read_moment}
use Rattle.places.specs.Name.{parse_name}
use Rattle.intervals.specs.Interval.{standard_sum, rises}
use Rattle.intervals.specs.declared.Interval.{Interval}

-- "transition, name, wall offset, savings"; "a value's code (7) comes before its use (4, 8 to 11), and each use is judged at once"; wall minus
-- savings outside 24 hours is "10 in an interval, after its savings are read"
unfoldable pub interval_in_order : ℕ → ℕ → List ℕ → Parsed Interval
interval_in_order pool prev s =
    bind (parse (read_moment prev) s) (λ start r. pick (rises prev start) (
    bind (parse_name pool r) (λ name r.
    bind (parse read_sum r) (λ wall r.
    bind (parse read_sum r) (λ savings r. pick (in_day (standard_sum wall savings)) (
    got (record { start = start; name = name; wall = wall; savings = savings }) r) (bad BadInterval))))) (bad BadInterval))
