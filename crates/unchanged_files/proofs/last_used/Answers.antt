use Rattle.unchanged_files.proofs.UseLaws.{last_some, last-not}
use Rattle.unchanged_files.proofs.last_used.Goals as goal

pub returns-then-uses-n-eq0 : goal.returns-then-uses-n-eq0
returns-then-uses-n-eq0 c = last-not _ _

pub returns : goal.returns
returns c = last_some _ _ c.if-n-eq0.false c.if-uses-n-eq0.false
