use Rattle.rules.specs.Rules.{most_day}
use Rattle.rules.proofs.most_day.Goals as goal

pub returns-then-last : goal.returns-then-last
unfolding most_day
returns-then-last c = rw c.if-last.true c.month_length.ensures

pub returns : goal.returns
unfolding most_day
returns c = rw c.if-last.false c.month_length-2.ensures
