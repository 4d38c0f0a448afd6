use Rattle.field_readers.proofs.TakeLaws.{aliases-refused, aliases-kept}
use Rattle.check_steps.proofs.take_aliases.Goals as goal

pub returns-in-Err : goal.returns-in-Err
returns-in-Err c = aliases-refused _ _ _ _ _ c.requires.2 _ c.check.ensures _ c.in-Err.is

pub returns-in-Ok : goal.returns-in-Ok
returns-in-Ok c = aliases-kept _ _ _ _ _ c.requires.2 _ c.check.ensures c.in-Ok.is
