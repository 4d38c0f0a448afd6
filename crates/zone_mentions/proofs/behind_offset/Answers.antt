use mathlib.Core.Path.{refl, ap}
use Rattle.places.specs.Placed.{of_read}
use Rattle.places.proofs.PlaceLaws.{then-in, on, off, here}
use Rattle.mentions.specs.Walk.{behind_offset}
use Rattle.zone_mentions.proofs.behind_offset.Goals as goal

pub returns-in-Err : goal.returns-in-Err
unfolding behind_offset
returns-in-Err c = off c.sum_at.ensures _ _ (ap of_read c.in-Err.is)

pub returns-in-Ok : goal.returns-in-Ok
unfolding behind_offset
returns-in-Ok c = on c.sum_at.ensures _ _ _ _ (ap of_read c.in-Ok.is) (here _ _ _ _ refl (then-in c.sum_at.ensures _ _ (ap of_read c.in-Ok.is)))
