use Rattle.renumbering.proofs.RenumberLaws.{measured-none, measured-is}
use Rattle.renumbering.proofs.size_run.Goals as goal

pub returns-in-Interval : goal.returns-in-Interval
returns-in-Interval c = measured-is _ _ _ _ _ _ _ _ c.in-Interval.is c.size_intervals-r.ensures

pub returns-in-Names : goal.returns-in-Names
returns-in-Names c = measured-is _ _ _ _ _ _ _ _ c.in-Names.is c.size_names-r.ensures

pub returns-in_default : goal.returns-in_default
returns-in_default c = measured-none _ _ _ _ c.requires.0
