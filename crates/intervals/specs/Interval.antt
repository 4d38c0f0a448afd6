-- The listed intervals of a zone, read left to right, for the proofs: each thing that is read is a stage of its own, last stage first. In the
-- paper's order an interval stands in InOrder.antt. `standard_sum` and `rises` are to be believed; the stages are the code's way, tied to that by
-- `interval-stages` (proofs/InOrderLaws.antt).
use Rattle.base.specs.declared.Refusal.TheVariants.{BadInterval}
use Rattle.std.specs.Prelude.{ℕ, ◌+◌, ◌-◌, Bool, List, ltb, eqb}
use Rattle.base.specs.Pick.{pick, both}
use Rattle.base.specs.Parsed.{Parsed, got, bad, bind, parse}
use Rattle.base.specs.Moment.{start_of_time, end_of_time}
use Rattle.offsets.specs.Offset.{in_day, read_sum}
use Rattle.transitions.specs.Transition.{read_moment}
use Rattle.places.specs.Name.{parse_name}
use Rattle.intervals.specs.declared.Interval.{Interval}

-- "the standard offset, wall minus savings", as a sum: all three have 86,400,000 added. 0 where it would be less
abbrev pub standard_sum : ℕ → ℕ → ℕ
standard_sum wall savings = wall + 86400000 - savings

-- An interval: "transition, name, wall offset, savings". "A zone where that leaves the open range of 24 hours either way is no longer well
-- formed: number 10 in an interval, after its savings are read"
unfoldable pub judge_standard : ℕ → ℕ → ℕ → ℕ → List ℕ → Parsed Interval
judge_standard m n w v s = pick (in_day (standard_sum w v)) (got (record { start = m; name = n; wall = w; savings = v }) s) (bad BadInterval)

unfoldable pub after_wall : ℕ → ℕ → ℕ → List ℕ → Parsed Interval
after_wall m n w s = bind (parse read_sum s) (judge_standard m n w)

unfoldable pub after_name : ℕ → ℕ → List ℕ → Parsed Interval
after_name m n s = bind (parse read_sum s) (after_wall m n)

unfoldable pub parse_details : ℕ → ℕ → List ℕ → Parsed Interval
parse_details pool m s = bind (parse_name pool s) (after_name m)

-- "The first start is start of time, later ones finite and strictly rising"; prev is the start before, or end of time for none
abbrev pub rises : ℕ → ℕ → Bool
rises prev m = pick (eqb prev end_of_time) (eqb m start_of_time) (both (ltb prev m) (ltb m end_of_time))

unfoldable pub after_start : ℕ → ℕ → ℕ → List ℕ → Parsed Interval
after_start pool prev m s = pick (rises prev m) (parse_details pool m s) (bad BadInterval)

unfoldable pub parse_interval : ℕ → ℕ → List ℕ → Parsed Interval
parse_interval pool prev s = bind (parse (read_moment prev) s) (after_start pool prev)

abbrev pub start_of : Interval → ℕ
start_of i = i.start
