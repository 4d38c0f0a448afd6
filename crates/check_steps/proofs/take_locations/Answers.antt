use Rattle.field_readers.proofs.TakeLaws.{locations-refused, locations-kept}
use Rattle.check_steps.proofs.take_locations.Goals as goal

pub returns-in-Err : goal.returns-in-Err
returns-in-Err c = locations-refused _ _ _ _ _ _ c.check-v.ensures _ c.in-Err.is

pub returns-in-Ok : goal.returns-in-Ok
returns-in-Ok c = locations-kept _ _ _ _ _ _ c.check-v.ensures c.in-Ok.is
