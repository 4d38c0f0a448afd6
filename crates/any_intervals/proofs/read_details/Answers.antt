use Rattle.base.specs.declared.Refusal.TheVariants.{BadInterval}
use mathlib.Core.Path.{refl, sym, ap, ◌∙◌}
use Rattle.places.specs.Placed.{of_read}
use Rattle.places.proofs.PlaceLaws.{then-in, on, off, here, stands-if, stands-else, refuse, placed-got}
use Rattle.places.proofs.ValueLaws.{sum-high}
use Rattle.intervals.specs.Interval.{judge_standard, after_wall, after_name, parse_details}
use Rattle.any_intervals.proofs.read_details.Goals as goal

pub sum_at-requires : goal.sum_at-requires
sum_at-requires c = then-in c.name_at.ensures _ _ (ap of_read c.in-Ok.is)

pub sum_at-requires-in-Ok-sum_at : goal.sum_at-requires-in-Ok-sum_at
sum_at-requires-in-Ok-sum_at c = then-in c.sum_at.ensures _ _ (ap of_read c.in-Ok-sum_at.is)

pub standard_ok-requires : goal.standard_ok-requires
standard_ok-requires c = (
  sum-high _ _ _ (placed-got c.sum_at.ensures _ _ (ap of_read c.in-Ok-sum_at.is)),
  sum-high _ _ _ (placed-got c.sum_at-in-Ok-sum_at.ensures _ _ (ap of_read c.in-Ok-sum_at-2.is)),
)

pub returns-then-standard_ok : goal.returns-then-standard_ok
unfolding parse_details after_name after_wall judge_standard
returns-then-standard_ok c = on c.name_at.ensures _ _ _ _
    (ap of_read c.in-Ok.is)
    (on c.sum_at.ensures _ _ _ _
    (ap of_read c.in-Ok-sum_at.is)
    (on c.sum_at-in-Ok-sum_at.ensures _ _ _ _ (ap of_read c.in-Ok-sum_at-2.is)
    (stands-if _ _ _ _ _ (sym c.standard_ok.ensures ∙ c.if-standard_ok.true)
    (here _ _ _ _ refl (then-in c.sum_at-in-Ok-sum_at.ensures _ _ (ap of_read c.in-Ok-sum_at-2.is))))))

pub returns-in-Err : goal.returns-in-Err
unfolding parse_details
returns-in-Err c = off c.name_at.ensures _ _ (ap of_read c.in-Err.is)

pub returns-in-Err-sum_at : goal.returns-in-Err-sum_at
unfolding parse_details after_name
returns-in-Err-sum_at c = on c.name_at.ensures _ _ _ _
    (ap of_read c.in-Ok.is)
    (off c.sum_at.ensures _ _ (ap of_read c.in-Err-sum_at.is))

pub returns-in-Err-sum_at-2 : goal.returns-in-Err-sum_at-2
unfolding parse_details after_name after_wall
returns-in-Err-sum_at-2 c = on c.name_at.ensures _ _ _ _
    (ap of_read c.in-Ok.is)
    (on c.sum_at.ensures _ _ _ _
    (ap of_read c.in-Ok-sum_at.is)
    (off c.sum_at-in-Ok-sum_at.ensures _ _ (ap of_read c.in-Err-sum_at-2.is)))

pub returns-else-standard_ok : goal.returns-else-standard_ok
unfolding parse_details after_name after_wall judge_standard
returns-else-standard_ok c = on c.name_at.ensures _ _ _ _
    (ap of_read c.in-Ok.is)
    (on c.sum_at.ensures _ _ _ _
    (ap of_read c.in-Ok-sum_at.is)
    (on c.sum_at-in-Ok-sum_at.ensures _ _ _ _ (ap of_read c.in-Ok-sum_at-2.is)
    (stands-else _ _ _ _ _ (sym c.standard_ok.ensures ∙ c.if-standard_ok.false) (refuse _ BadInterval))))
