use mathlib.Core.Path.{ap}
use Rattle.places.specs.Placed.{of_read}
use Rattle.places.proofs.PlaceLaws.{then-in, on, off}
use Rattle.pieces.specs.Content.{parse_head, after_id}
use Rattle.pieces.proofs.read_head.Goals as goal

pub byte_at-requires : goal.byte_at-requires
byte_at-requires c = then-in c.count_at.ensures _ _ (ap of_read c.in-Ok.is)

pub behind_flag-requires : goal.behind_flag-requires
behind_flag-requires c = then-in c.byte_at.ensures _ _ (ap of_read c.in-Ok-byte_at.is)

pub returns-in-Err : goal.returns-in-Err
unfolding parse_head
returns-in-Err c = off c.count_at.ensures _ _ (ap of_read c.in-Err.is)

pub returns-in-Err-byte_at : goal.returns-in-Err-byte_at
unfolding parse_head after_id
returns-in-Err-byte_at c = on c.count_at.ensures _ _ _ _ (ap of_read c.in-Ok.is) (off c.byte_at.ensures _ _ (ap of_read c.in-Err-byte_at.is))

pub returns-in-Ok-byte_at : goal.returns-in-Ok-byte_at
unfolding parse_head after_id
returns-in-Ok-byte_at c = on c.count_at.ensures _ _ _ _ (ap of_read c.in-Ok.is) (on c.byte_at.ensures _ _ _ _ (ap of_read c.in-Ok-byte_at.is) c.behind_flag.ensures)
