use borrow.Author.Tests.{lt-ltb, le-ltb}
use Rattle.interval_runs.specs.Run.{stop_of}
use Rattle.interval_runs.proofs.stop_at.Goals as goal

pub returns-then-end-lt-END : goal.returns-then-end-lt-END
unfolding stop_of
returns-then-end-lt-END c = rw (lt-ltb _ _ c.if-end-lt-END.true)

pub returns-then-t-gt-LAST : goal.returns-then-t-gt-LAST
unfolding stop_of
returns-then-t-gt-LAST c = rw (le-ltb _ _ c.if-end-lt-END.false, lt-ltb _ _ c.if-t-gt-LAST.true)

pub returns : goal.returns
unfolding stop_of
returns c = rw (le-ltb _ _ c.if-end-lt-END.false, le-ltb _ _ c.if-t-gt-LAST.false)
