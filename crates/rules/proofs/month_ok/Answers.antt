use borrow.Author.Tests.{le-leb, lt-leb}
use Rattle.rules.specs.Fields.{month_ok}
use Rattle.rules.proofs.month_ok.Goals as goal

pub returns-then-month-lt1 : goal.returns-then-month-lt1
unfolding month_ok
returns-then-month-lt1 c = simp (lt-leb _ _ c.if-month-lt1.true)

pub returns : goal.returns
unfolding month_ok
returns c = simp (le-leb _ _ c.if-month-lt1.false)
