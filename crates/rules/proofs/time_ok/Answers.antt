use borrow.Author.Tests.{le-leb, lt-leb}
use Rattle.rules.specs.Fields.{time_ok}
use Rattle.rules.proofs.time_ok.Goals as goal

pub returns-then-sum-lt86400000 : goal.returns-then-sum-lt86400000
unfolding time_ok
returns-then-sum-lt86400000 c = simp (lt-leb _ _ c.if-sum-lt86400000.true)

pub returns : goal.returns
unfolding time_ok
returns c = simp (le-leb _ _ c.if-sum-lt86400000.false)
