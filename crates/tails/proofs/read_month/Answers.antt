use Rattle.std.proofs.lemmas.Result.{err_from_is_err_and}
use Rattle.base.specs.declared.Refusal.TheVariants.{BadRecurrence}
use mathlib.Core.Path.{sym, ap, ◌∙◌}
use Rattle.places.specs.Placed.{of_read}
use Rattle.places.proofs.PlaceLaws.{then-in, on, off, stands-if, stands-else, refuse}
use Rattle.tails.specs.Tail.{parse_month, after_month}
use Rattle.tails.proofs.read_month.Goals as goal

pub read_day-requires : goal.read_day-requires
read_day-requires c = (
  then-in c.count_at.ensures _ _
      (ap of_read c.in_ok-m.was),
  sym c.month_ok.ensures ∙ c.if-month_ok.true,
)

pub returns-then-month_ok : goal.returns-then-month_ok
unfolding parse_month after_month
returns-then-month_ok c = on c.count_at.ensures _ _ _ _
    (ap of_read c.in_ok-m.was)
    (stands-if _ _ _ _ _ (sym c.month_ok.ensures ∙ c.if-month_ok.true) c.read_day.ensures)

pub returns-in_err-m : goal.returns-in_err-m
unfolding parse_month
returns-in_err-m c = let p = err_from_is_err_and c.from_residual.result c.from_residual.ensures.1 in
    rw (p.1, p.2) (off c.count_at.ensures _ _ (ap of_read c.in_err-m.was))

pub returns : goal.returns
unfolding parse_month after_month
returns c = on c.count_at.ensures _ _ _ _ (ap of_read c.in_ok-m.was)
    (stands-else _ _ _ _ _ (sym c.month_ok.ensures ∙ c.if-month_ok.false) (refuse _ BadRecurrence))
