use Rattle.file_locations.proofs.id_of.Goals as goal

pub returns-in-Zone : goal.returns-in-Zone
returns-in-Zone c = rw c.in-Zone.is

pub returns-in-Zone1970 : goal.returns-in-Zone1970
returns-in-Zone1970 c = rw c.in-Zone1970.is
