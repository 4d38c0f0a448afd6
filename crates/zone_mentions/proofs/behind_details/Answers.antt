use mathlib.Core.Path.{ap}
use Rattle.places.specs.Placed.{of_read}
use Rattle.places.proofs.PlaceLaws.{then-in, on, off}
use Rattle.mentions.specs.Walk.{behind_details}
use Rattle.zone_mentions.proofs.behind_details.Goals as goal

pub sum_at-requires-in-Ok : goal.sum_at-requires-in-Ok
sum_at-requires-in-Ok c = then-in c.sum_at.ensures _ _ (ap of_read c.in-Ok.is)

pub behind_start-requires : goal.behind_start-requires
behind_start-requires c = then-in c.sum_at-in-Ok.ensures _ _ (ap of_read c.in-Ok-sum_at.is)

pub returns-in-Err : goal.returns-in-Err
unfolding behind_details
returns-in-Err c = off c.sum_at.ensures _ _ (ap of_read c.in-Err.is)

pub returns-in-Err-sum_at : goal.returns-in-Err-sum_at
unfolding behind_details
returns-in-Err-sum_at c = on c.sum_at.ensures _ _ _ _ (ap of_read c.in-Ok.is) (off c.sum_at-in-Ok.ensures _ _ (ap of_read c.in-Err-sum_at.is))

pub returns-in-Ok-sum_at : goal.returns-in-Ok-sum_at
unfolding behind_details
returns-in-Ok-sum_at c = on c.sum_at.ensures _ _ _ _ (ap of_read c.in-Ok.is) (on c.sum_at-in-Ok.ensures _ _ _ _ (ap of_read c.in-Ok-sum_at.is) c.behind_start.ensures)
