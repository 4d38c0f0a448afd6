use Rattle.cursors.proofs.StepLaws.{end-untailed, end-tailed, end_refused}
use Rattle.listed_cursors.proofs.list_end.Goals as goal

pub returns-in-Untailed : goal.returns-in-Untailed
returns-in-Untailed c = end-untailed _ c.in-Untailed.is

pub returns-in-Tailed : goal.returns-in-Tailed
returns-in-Tailed c = end-tailed _ _ c.in-Tailed.is

pub returns-in-Refused : goal.returns-in-Refused
returns-in-Refused c = end_refused _ _ c.in-Refused.is
