use Rattle.mention_runs.proofs.RunLaws.{counted_is}
use Rattle.mention_runs.proofs.count_run.Goals as goal

pub returns-in-Names : goal.returns-in-Names
returns-in-Names c = counted_is _ _ _ _ _ _ _ _ c.in-Names.is c.count_locations-r.ensures
