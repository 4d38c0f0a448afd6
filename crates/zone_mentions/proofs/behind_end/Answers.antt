use mathlib.Core.Path.{refl, ap}
use borrow.Author.Tests.{eq-eqb, ne_eqb}
use Rattle.places.specs.Placed.{of_read}
use Rattle.places.proofs.PlaceLaws.{then-in, on, off, here, stands-if, stands-else}
use Rattle.mentions.specs.Walk.{behind_end}
use Rattle.mentions.proofs.WalkLaws.{none_here}
use Rattle.zone_mentions.proofs.behind_end.Goals as goal

pub returns-then-b-ne1 : goal.returns-then-b-ne1
unfolding behind_end
returns-then-b-ne1 c = on c.byte_at.ensures _ _ _ _ (ap of_read c.in-Ok.is) (stands-else _ _ _ _ _ (ne_eqb _ _ c.if-b-ne1.true) (none_here _))

pub sum_at-requires : goal.sum_at-requires
sum_at-requires c = then-in c.byte_at.ensures _ _ (ap of_read c.in-Ok.is)

pub returns-in-Err : goal.returns-in-Err
unfolding behind_end
returns-in-Err c = off c.byte_at.ensures _ _ (ap of_read c.in-Err.is)

pub returns-in-Err-sum_at : goal.returns-in-Err-sum_at
unfolding behind_end
returns-in-Err-sum_at c = on c.byte_at.ensures _ _ _ _ (ap of_read c.in-Ok.is) (stands-if _ _ _ _ _ (eq-eqb _ _ c.if-b-ne1.false)
    (off c.sum_at.ensures _ _ (ap of_read c.in-Err-sum_at.is)))

pub returns-in-Ok-sum_at : goal.returns-in-Ok-sum_at
unfolding behind_end
returns-in-Ok-sum_at c = on c.byte_at.ensures _ _ _ _ (ap of_read c.in-Ok.is) (stands-if _ _ _ _ _ (eq-eqb _ _ c.if-b-ne1.false)
    (on c.sum_at.ensures _ _ _ _ (ap of_read c.in-Ok-sum_at.is) (here _ _ _ _ refl (then-in c.sum_at.ensures _ _ (ap of_read c.in-Ok-sum_at.is)))))
