use Rattle.unchanged_files.proofs.UseLaws.{closed-not, closed-so}
use borrow.Author.Tests.{not-false}
use Rattle.unchanged_files.proofs.is_closed.Goals as goal

pub returns-then-not-plain : goal.returns-then-not-plain
returns-then-not-plain c = closed-not _ _ _

pub returns-then-descends : goal.returns-then-descends
returns-then-descends c = closed-so _ _ _ c.if-not-plain.false _ c.descends.ensures c.if-descends.true _ c.used_up_to.ensures

pub returns : goal.returns
returns c = closed-not _ _ _
