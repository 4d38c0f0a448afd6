use Rattle.found_zones.proofs.find_short.Goals as goal

pub find_with-requires : goal.find_with-requires
find_with-requires c = (c.requires.0, c.requires.1)

pub returns : goal.returns
returns c = c.find_with.ensures
