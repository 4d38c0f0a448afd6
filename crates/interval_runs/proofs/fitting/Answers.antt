use Rattle.interval_runs.proofs.TicksLaws.{fitting-few, fitting-all}
use Rattle.interval_runs.proofs.fitting.Goals as goal

pub returns-then-n-k : goal.returns-then-n-k
returns-then-n-k c = fitting-few _ _ _ c.requires c.if-n-k.true

pub returns : goal.returns
returns c = fitting-all _ _ _ c.requires c.if-n-k.false
