use mathlib.Core.Path.{ap}
use Rattle.places.specs.Placed.{of_read}
use Rattle.places.proofs.PlaceLaws.{then-in, on, off}
use Rattle.tails.specs.View.{of_rule}
use Rattle.tails.specs.Tail.{after_daylight_name, parse_daylight}
use Rattle.tails.proofs.read_daylight.Goals as goal

pub name_at-requires : goal.name_at-requires
name_at-requires c = c.requires.0

pub read_rule-requires : goal.read_rule-requires
read_rule-requires c = then-in c.name_at.ensures _ _ (ap of_read c.in-Ok.is)

pub read_savings-requires : goal.read_savings-requires
read_savings-requires c = (
  then-in c.read_rule.ensures _ _
      (ap of_rule c.in-Ok-read_rule.is),
  c.requires.1,
)

pub returns-in-Err : goal.returns-in-Err
unfolding parse_daylight
returns-in-Err c = off c.name_at.ensures _ _ (ap of_read c.in-Err.is)

pub returns-in-Err-read_rule : goal.returns-in-Err-read_rule
unfolding parse_daylight after_daylight_name
returns-in-Err-read_rule c = on c.name_at.ensures _ _ _ _
    (ap of_read c.in-Ok.is)
    (off c.read_rule.ensures _ _ (ap of_rule c.in-Err-read_rule.is))

pub returns-in-Ok-read_rule : goal.returns-in-Ok-read_rule
unfolding parse_daylight after_daylight_name
returns-in-Ok-read_rule c = on c.name_at.ensures _ _ _ _
    (ap of_read c.in-Ok.is)
    (on c.read_rule.ensures _ _ _ _ (ap of_rule c.in-Ok-read_rule.is)
    c.read_savings.ensures)
