use Rattle.interval_runs.proofs.TicksLaws.{ticks-stand}
use Rattle.any_intervals.proofs.moment_at.Goals as goal

pub returns-then-t-le-LAST : goal.returns-then-t-le-LAST
returns-then-t-le-LAST c = ticks-stand _ _ _ _ c.requires c.if-s-at-ge9.true c.if-s-at-eq2.true c.ticks_at-t.ensures
    (record { low = c.if-t-ge-FIRST.true; high = c.if-t-le-LAST.true })
