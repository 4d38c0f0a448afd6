use borrow.Author.Tests.{lt-ltb, le-ltb}
use Rattle.rules.specs.Fields.{sum_ok}
use Rattle.rules.proofs.sum_ok.Goals as goal

pub returns-then-offset-savings-le86400000 : goal.returns-then-offset-savings-le86400000
unfolding sum_ok
returns-then-offset-savings-le86400000 c = simp (le-ltb _ _ c.if-offset-savings-le86400000.true)

pub returns : goal.returns
unfolding sum_ok
returns c = simp (lt-ltb _ _ c.if-offset-savings-le86400000.false)
