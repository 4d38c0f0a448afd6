use mathlib.Core.Path.{refl, ap}
use Rattle.places.specs.Placed.{of_read}
use Rattle.places.proofs.PlaceLaws.{then-in, on, off, here}
use Rattle.locations.specs.Content.{parse_country}
use Rattle.location_reads.proofs.country_at.Goals as goal

pub name_at-requires-in-Ok : goal.name_at-requires-in-Ok
name_at-requires-in-Ok c = then-in c.name_at.ensures _ _ (ap of_read c.in-Ok.is)

pub returns-in-Err : goal.returns-in-Err
unfolding parse_country
returns-in-Err c = off c.name_at.ensures _ _ (ap of_read c.in-Err.is)

pub returns-in-Err-name_at : goal.returns-in-Err-name_at
unfolding parse_country
returns-in-Err-name_at c = on c.name_at.ensures _ _ _ _
    (ap of_read c.in-Ok.is)
    (off c.name_at-in-Ok.ensures _ _ (ap of_read c.in-Err-name_at.is))

pub returns-in-Ok-name_at : goal.returns-in-Ok-name_at
unfolding parse_country
returns-in-Ok-name_at c = on c.name_at.ensures _ _ _ _
    (ap of_read c.in-Ok.is)
    (on c.name_at-in-Ok.ensures _ _ _ _ (ap of_read c.in-Ok-name_at.is)
    (here _ _ _ _ refl (then-in c.name_at-in-Ok.ensures _ _ (ap of_read c.in-Ok-name_at.is))))
