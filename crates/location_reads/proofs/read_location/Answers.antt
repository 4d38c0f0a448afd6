use mathlib.Core.Path.{ap}
use native.Mathlib.Omega.{arith}
use Rattle.places.specs.Placed.{of_read}
use Rattle.places.proofs.PlaceLaws.{then-in}
use Rattle.locations.specs.Content.{parse_location}
use Rattle.locations.proofs.ReadLaws.{off-spot, on-spot}
use Rattle.location_reads.proofs.read_location.Goals as goal

pub seconds_at-requires-in-Ok : goal.seconds_at-requires-in-Ok
seconds_at-requires-in-Ok c = (then-in c.seconds_at.ensures _ _ (ap of_read c.in-Ok.is), omega arith)

pub number_at-requires : goal.number_at-requires
number_at-requires c = then-in c.seconds_at-in-Ok.ensures _ _ (ap of_read c.in-Ok-seconds_at.is)

pub read_texts-requires : goal.read_texts-requires
read_texts-requires c = then-in c.number_at.ensures _ _ (ap of_read c.in-Ok-number_at.is)

pub returns-in-Err : goal.returns-in-Err
unfolding parse_location
returns-in-Err c = off-spot c.seconds_at.ensures _ _ (ap of_read c.in-Err.is)

pub returns-in-Err-seconds_at : goal.returns-in-Err-seconds_at
unfolding parse_location
returns-in-Err-seconds_at c = on-spot c.seconds_at.ensures _ _ _ _
    (ap of_read c.in-Ok.is)
    (off-spot c.seconds_at-in-Ok.ensures _ _ (ap of_read c.in-Err-seconds_at.is))

pub returns-in-Err-number_at : goal.returns-in-Err-number_at
unfolding parse_location
returns-in-Err-number_at c = on-spot c.seconds_at.ensures _ _ _ _
    (ap of_read c.in-Ok.is)
    (on-spot c.seconds_at-in-Ok.ensures _ _ _ _
    (ap of_read c.in-Ok-seconds_at.is)
    (off-spot c.number_at.ensures _ _ (ap of_read c.in-Err-number_at.is)))

pub returns-in-Ok-number_at : goal.returns-in-Ok-number_at
unfolding parse_location
returns-in-Ok-number_at c = on-spot c.seconds_at.ensures _ _ _ _
    (ap of_read c.in-Ok.is)
    (on-spot c.seconds_at-in-Ok.ensures _ _ _ _
    (ap of_read c.in-Ok-seconds_at.is)
    (on-spot c.number_at.ensures _ _ _ _ (ap of_read c.in-Ok-number_at.is)
    c.read_texts.ensures))
