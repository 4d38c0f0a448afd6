use mathlib.Core.Path.{ap}
use Rattle.places.specs.Placed.{of_read}
use Rattle.places.proofs.PlaceLaws.{then-in, on, off}
use Rattle.pieces.specs.Content.{piece_end, parse_wall}
use Rattle.pieces.proofs.behind_details.Goals as goal

pub sum_at-requires : goal.sum_at-requires
sum_at-requires c = then-in c.count_at.ensures _ _ (ap of_read c.in-Ok.is)

pub sum_at-requires-in-Ok-sum_at : goal.sum_at-requires-in-Ok-sum_at
sum_at-requires-in-Ok-sum_at c = then-in c.sum_at.ensures _ _ (ap of_read c.in-Ok-sum_at.is)

pub returns-in-Err : goal.returns-in-Err
unfolding piece_end
returns-in-Err c = off c.count_at.ensures _ _ (ap of_read c.in-Err.is)

pub returns-in-Err-sum_at : goal.returns-in-Err-sum_at
unfolding piece_end parse_wall
returns-in-Err-sum_at c = on c.count_at.ensures _ _ _ _ (ap of_read c.in-Ok.is)
    (off c.sum_at.ensures _ _ (ap of_read c.in-Err-sum_at.is))

pub returns-in-Ok-sum_at : goal.returns-in-Ok-sum_at
unfolding piece_end parse_wall
returns-in-Ok-sum_at c = on c.count_at.ensures _ _ _ _ (ap of_read c.in-Ok.is)
    (on c.sum_at.ensures _ _ _ _ (ap of_read c.in-Ok-sum_at.is)
    c.sum_at-in-Ok-sum_at.ensures)
