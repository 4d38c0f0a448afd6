use native.Mathlib.Omega.{arith}
use Rattle.interval_runs.proofs.TicksLaws.{ticks-after, ticks-before}
use Rattle.interval_runs.proofs.ticks_at.Goals as goal

pub overflow_mul-raw : goal.overflow_mul-raw
overflow_mul-raw c = omega (arith, c.four_at-high.ensures.1)

pub overflow_add-raw : goal.overflow_add-raw
overflow_add-raw c = omega (arith, c.four_at-high.ensures.1, c.four_at-low.ensures.1)

pub returns-then-raw-lt17699160297709551616 : goal.returns-then-raw-lt17699160297709551616
returns-then-raw-lt17699160297709551616 c = ticks-after _ _ _ _ c.requires c.four_at-high.ensures.0 c.four_at-low.ensures.0 c.if-raw-lt17699160297709551616.true

pub returns : goal.returns
returns c = ticks-before _ _ _ _ c.requires c.four_at-high.ensures.0 c.four_at-low.ensures.0 c.four_at-high.ensures.1 c.four_at-low.ensures.1 c.if-raw-lt17699160297709551616.false
