use Rattle.alias_lookup.proofs.FindLaws.{listed_at, never-count}
use Rattle.alias_lookup.proofs.find_target.Goals as goal

pub find_in-requires : goal.find_in-requires
find_in-requires c = (c.requires.0, c.requires.1, listed_at _ _ c.requires.2 _ c.count_at.ensures _ _ c.in-Ok.is)

pub returns-in-Err : goal.returns-in-Err
returns-in-Err c = never-count _ _ c.requires.2 _ c.count_at.ensures _ c.in-Err.is
