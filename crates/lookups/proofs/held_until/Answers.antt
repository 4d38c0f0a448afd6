use borrow.Author.Tests.{lt-ltb, le-ltb}
use Rattle.lookups.specs.View.{held_until}
use Rattle.lookups.proofs.held_until.Goals as goal

pub returns-then-c-lt-END : goal.returns-then-c-lt-END
unfolding held_until
returns-then-c-lt-END c = rw (lt-ltb _ _ c.if-c-lt-END.true)

pub returns : goal.returns
unfolding held_until
returns c = rw (le-ltb _ _ c.if-c-lt-END.false)
