use Rattle.renumbering.proofs.RenumberLaws.{written_none, written_is, room-is}
use Rattle.renumbering.proofs.write_run.Goals as goal

pub write_intervals-r-requires : goal.write_intervals-r-requires
write_intervals-r-requires c = (c.requires.0, c.requires.1, room-is _ c.args.s.now c.args.at _ _ c.args.out.now c.in-Interval.is c.requires.2)

pub write_names-r-requires : goal.write_names-r-requires
write_names-r-requires c = (c.requires.0, c.requires.1, room-is _ c.args.s.now c.args.at _ _ c.args.out.now c.in-Names.is c.requires.2)

pub returns-in-Interval : goal.returns-in-Interval
returns-in-Interval c = written_is _ _ _ _ _ _ _ _ _ _ c.in-Interval.is c.write_intervals-r.ensures

pub returns-in-Names : goal.returns-in-Names
returns-in-Names c = written_is _ _ _ _ _ _ _ _ _ _ c.in-Names.is c.write_names-r.ensures

pub returns-in_default : goal.returns-in_default
returns-in_default c = written_none _ _ _ _ c.requires.0 _
