use mathlib.Core.Path.{refl, ap}
use Rattle.places.specs.Placed.{of_read}
use Rattle.places.proofs.PlaceLaws.{then-in, on, off, here}
use Rattle.tails.specs.View.{of_rule}
use Rattle.tails.specs.Tail.{after_standard_name, after_offset, parse_standard}
use Rattle.tails.proofs.read_standard.Goals as goal

pub name_at-requires : goal.name_at-requires
name_at-requires c = then-in c.sum_at.ensures _ _ (ap of_read c.in-Ok.is)

pub read_rule-requires : goal.read_rule-requires
read_rule-requires c = then-in c.name_at.ensures _ _ (ap of_read c.in-Ok-name_at.is)

pub returns-in-Err : goal.returns-in-Err
unfolding parse_standard
returns-in-Err c = off c.sum_at.ensures _ _ (ap of_read c.in-Err.is)

pub returns-in-Err-name_at : goal.returns-in-Err-name_at
unfolding parse_standard after_offset
returns-in-Err-name_at c = on c.sum_at.ensures _ _ _ _
    (ap of_read c.in-Ok.is)
    (off c.name_at.ensures _ _ (ap of_read c.in-Err-name_at.is))

pub returns-in-Err-read_rule : goal.returns-in-Err-read_rule
unfolding parse_standard after_offset after_standard_name
returns-in-Err-read_rule c = on c.sum_at.ensures _ _ _ _
    (ap of_read c.in-Ok.is)
    (on c.name_at.ensures _ _ _ _
    (ap of_read c.in-Ok-name_at.is)
    (off c.read_rule.ensures _ _ (ap of_rule c.in-Err-read_rule.is)))

pub returns-in-Ok-read_rule : goal.returns-in-Ok-read_rule
unfolding parse_standard after_offset after_standard_name
returns-in-Ok-read_rule c = on c.sum_at.ensures _ _ _ _
    (ap of_read c.in-Ok.is)
    (on c.name_at.ensures _ _ _ _
    (ap of_read c.in-Ok-name_at.is)
    (on c.read_rule.ensures _ _ _ _ (ap of_rule c.in-Ok-read_rule.is)
    (here _ _ _ _ refl (then-in c.read_rule.ensures _ _ (ap of_rule c.in-Ok-read_rule.is)))))
