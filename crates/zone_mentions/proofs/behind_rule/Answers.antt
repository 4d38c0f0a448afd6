use mathlib.Core.Path.{refl, ap}
use Rattle.places.specs.Placed.{of_read}
use Rattle.places.proofs.PlaceLaws.{then-in, on, off, here}
use Rattle.mentions.specs.Walk.{behind_rule}
use Rattle.zone_mentions.proofs.behind_rule.Goals as goal

pub count_at-requires : goal.count_at-requires
count_at-requires c = then-in c.byte_at.ensures _ _ (ap of_read c.in-Ok.is)

pub zigzag_at-requires : goal.zigzag_at-requires
zigzag_at-requires c = then-in c.count_at.ensures _ _ (ap of_read c.in-Ok-count_at.is)

pub sum_at-requires : goal.sum_at-requires
sum_at-requires c = then-in c.zigzag_at.ensures _ _ (ap of_read c.in-Ok-zigzag_at.is)

pub returns-in-Err : goal.returns-in-Err
unfolding behind_rule
returns-in-Err c = off c.byte_at.ensures _ _ (ap of_read c.in-Err.is)

pub returns-in-Err-count_at : goal.returns-in-Err-count_at
unfolding behind_rule
returns-in-Err-count_at c = on c.byte_at.ensures _ _ _ _ (ap of_read c.in-Ok.is) (off c.count_at.ensures _ _ (ap of_read c.in-Err-count_at.is))

pub returns-in-Err-zigzag_at : goal.returns-in-Err-zigzag_at
unfolding behind_rule
returns-in-Err-zigzag_at c = on c.byte_at.ensures _ _ _ _ (ap of_read c.in-Ok.is) (on c.count_at.ensures _ _ _ _ (ap of_read c.in-Ok-count_at.is)
    (off c.zigzag_at.ensures _ _ (ap of_read c.in-Err-zigzag_at.is)))

pub returns-in-Err-sum_at : goal.returns-in-Err-sum_at
unfolding behind_rule
returns-in-Err-sum_at c = on c.byte_at.ensures _ _ _ _ (ap of_read c.in-Ok.is) (on c.count_at.ensures _ _ _ _ (ap of_read c.in-Ok-count_at.is)
    (on c.zigzag_at.ensures _ _ _ _ (ap of_read c.in-Ok-zigzag_at.is) (off c.sum_at.ensures _ _ (ap of_read c.in-Err-sum_at.is))))

pub returns-in-Ok-sum_at : goal.returns-in-Ok-sum_at
unfolding behind_rule
returns-in-Ok-sum_at c = on c.byte_at.ensures _ _ _ _ (ap of_read c.in-Ok.is) (on c.count_at.ensures _ _ _ _ (ap of_read c.in-Ok-count_at.is)
    (on c.zigzag_at.ensures _ _ _ _ (ap of_read c.in-Ok-zigzag_at.is) (on c.sum_at.ensures _ _ _ _ (ap of_read c.in-Ok-sum_at.is)
    (here _ _ _ _ refl (then-in c.sum_at.ensures _ _ (ap of_read c.in-Ok-sum_at.is))))))
