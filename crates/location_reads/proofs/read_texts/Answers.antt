use mathlib.Core.Path.{ap}
use Rattle.places.specs.Placed.{of_read}
use Rattle.places.proofs.PlaceLaws.{then-in}
use Rattle.locations.specs.Content.{parse_texts}
use Rattle.locations.proofs.ReadLaws.{off-counted, on-counted, off-spot, on-spot, spot-here}
use Rattle.location_reads.proofs.read_texts.Goals as goal

pub name_at-requires : goal.name_at-requires
name_at-requires c = then-in c.skip_countries.ensures _ _ (ap of_read c.in-Ok.is)

pub name_at-requires-in-Ok-name_at : goal.name_at-requires-in-Ok-name_at
name_at-requires-in-Ok-name_at c = then-in c.name_at.ensures _ _ (ap of_read c.in-Ok-name_at.is)

pub returns-in-Err : goal.returns-in-Err
unfolding parse_texts
returns-in-Err c = off-counted _ c.skip_countries.ensures _ _ (ap of_read c.in-Err.is)

pub returns-in-Err-name_at : goal.returns-in-Err-name_at
unfolding parse_texts
returns-in-Err-name_at c = on-counted _ c.skip_countries.ensures _ _ _ _
    (ap of_read c.in-Ok.is)
    (λ cs n. off-spot c.name_at.ensures _ _ (ap of_read c.in-Err-name_at.is))

pub returns-in-Err-name_at-2 : goal.returns-in-Err-name_at-2
unfolding parse_texts
returns-in-Err-name_at-2 c = on-counted _ c.skip_countries.ensures _ _ _ _
    (ap of_read c.in-Ok.is)
    (λ cs n. on-spot c.name_at.ensures _ _ _ _
    (ap of_read c.in-Ok-name_at.is)
    (off-spot c.name_at-in-Ok-name_at.ensures _ _ (ap of_read c.in-Err-name_at-2.is)))

pub returns-in-Ok-name_at-2 : goal.returns-in-Ok-name_at-2
unfolding parse_texts
returns-in-Ok-name_at-2 c = on-counted _ c.skip_countries.ensures _ _ _ _
    (ap of_read c.in-Ok.is)
    (λ cs n. on-spot c.name_at.ensures _ _ _ _
    (ap of_read c.in-Ok-name_at.is)
    (on-spot c.name_at-in-Ok-name_at.ensures _ _ _ _ (ap of_read c.in-Ok-name_at-2.is)
    (spot-here _ _ _ _ _ _ _ _ cs c.requires n
    (then-in c.name_at-in-Ok-name_at.ensures _ _ (ap of_read c.in-Ok-name_at-2.is)))))
