use mathlib.Core.Path.{ap}
use Rattle.places.specs.Placed.{of_read}
use Rattle.places.proofs.PlaceLaws.{then-in, on, off}
use Rattle.locations.proofs.ReadLaws.{number-in, number-out, number-one, number_read}
use Rattle.location_reads.proofs.number_at.Goals as goal

pub returns-then-v-ne0 : goal.returns-then-v-ne0
returns-then-v-ne0 c = number_read _ _ _ _ c.in-Zone1970.is
    (on c.zigzag_at.ensures _ _ _ _ (ap of_read c.in-Ok.is)
    (number-out _ _ _ c.if-v-ne0.true))

pub returns-in-Zone : goal.returns-in-Zone
returns-in-Zone c = number-one _ _ _ c.in-Zone.is c.requires

pub returns-in-Err : goal.returns-in-Err
returns-in-Err c = number_read _ _ _ _ c.in-Zone1970.is
    (off c.zigzag_at.ensures _ _ (ap of_read c.in-Err.is))

pub returns-else-v-ne0 : goal.returns-else-v-ne0
returns-else-v-ne0 c = number_read _ _ _ _ c.in-Zone1970.is
    (on c.zigzag_at.ensures _ _ _ _ (ap of_read c.in-Ok.is)
    (number-in _ _ _ c.if-v-ne0.false
    (then-in c.zigzag_at.ensures _ _ (ap of_read c.in-Ok.is))))
