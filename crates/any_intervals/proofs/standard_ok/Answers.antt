use Rattle.intervals.proofs.StandardLaws.{standard-low, standard-are}
use Rattle.any_intervals.proofs.standard_ok.Goals as goal

pub returns-then-wall-savings : goal.returns-then-wall-savings
returns-then-wall-savings c = standard-low _ _ c.if-wall-savings.true

pub returns : goal.returns
returns c = standard-are _ _ c.if-wall-savings.false
