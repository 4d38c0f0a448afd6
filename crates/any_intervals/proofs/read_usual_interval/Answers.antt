use Rattle.std.proofs.lemmas.Result.{err_from_is_err_and}
use Rattle.base.specs.declared.Refusal.TheVariants.{BadInterval}
use mathlib.Core.Path.{sym, ap, ◌∙◌}
use Rattle.places.specs.Placed.{of_read}
use Rattle.places.proofs.PlaceLaws.{then-in, on, off, stands-if, stands-else, refuse}
use Rattle.intervals.specs.Interval.{after_start, parse_interval}
use Rattle.any_intervals.proofs.read_usual_interval.Goals as goal

pub usual_details-requires : goal.usual_details-requires
usual_details-requires c = then-in c.start_at.ensures _ _ (ap of_read c.in_ok-m.was)

pub returns-then-rises : goal.returns-then-rises
unfolding parse_interval after_start
returns-then-rises c = on c.start_at.ensures _ _ _ _
    (ap of_read c.in_ok-m.was)
    (stands-if _ _ _ _ _ (sym c.rises.ensures ∙ c.if-rises.true) c.usual_details.ensures)

pub returns-in_err-m : goal.returns-in_err-m
unfolding parse_interval
returns-in_err-m c = let p = err_from_is_err_and c.from_residual.result c.from_residual.ensures.1 in
    rw (p.1, p.2) (off c.start_at.ensures _ _ (ap of_read c.in_err-m.was))

pub returns : goal.returns
unfolding parse_interval after_start
returns c = on c.start_at.ensures _ _ _ _ (ap of_read c.in_ok-m.was)
    (stands-else _ _ _ _ _ (sym c.rises.ensures ∙ c.if-rises.false) (refuse _ BadInterval))
