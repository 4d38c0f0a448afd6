use mathlib.Core.Path.{refl, ap}
use Rattle.places.specs.Placed.{of_read}
use Rattle.places.proofs.PlaceLaws.{then-in, on, off, here, stands-if, stands-else}
use Rattle.mentions.specs.Walk.{location_names}
use Rattle.mention_steps.proofs.location_names.Goals as goal

pub zigzag_at-requires-in-Ok : goal.zigzag_at-requires-in-Ok
zigzag_at-requires-in-Ok c = then-in c.zigzag_at.ensures _ _ (ap of_read c.in-Ok.is)

pub numbered_names-requires : goal.numbered_names-requires
numbered_names-requires c = then-in c.zigzag_at-in-Ok.ensures _ _ (ap of_read c.in-Ok-zigzag_at.is)

pub returns-then-numbered : goal.returns-then-numbered
unfolding location_names
returns-then-numbered c = on c.zigzag_at.ensures _ _ _ _ (ap of_read c.in-Ok.is) (on c.zigzag_at-in-Ok.ensures _ _ _ _ (ap of_read c.in-Ok-zigzag_at.is)
    (stands-if _ _ _ _ _ c.if-numbered.true c.numbered_names.ensures))

pub returns-in-Err : goal.returns-in-Err
unfolding location_names
returns-in-Err c = off c.zigzag_at.ensures _ _ (ap of_read c.in-Err.is)

pub returns-in-Err-zigzag_at : goal.returns-in-Err-zigzag_at
unfolding location_names
returns-in-Err-zigzag_at c = on c.zigzag_at.ensures _ _ _ _ (ap of_read c.in-Ok.is) (off c.zigzag_at-in-Ok.ensures _ _ (ap of_read c.in-Err-zigzag_at.is))

pub returns-else-numbered : goal.returns-else-numbered
unfolding location_names
returns-else-numbered c = on c.zigzag_at.ensures _ _ _ _ (ap of_read c.in-Ok.is) (on c.zigzag_at-in-Ok.ensures _ _ _ _ (ap of_read c.in-Ok-zigzag_at.is)
    (stands-else _ _ _ _ _ c.if-numbered.false (here _ _ _ _ refl (then-in c.zigzag_at-in-Ok.ensures _ _ (ap of_read c.in-Ok-zigzag_at.is)))))
