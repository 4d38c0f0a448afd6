use Rattle.std.proofs.lemmas.Result.{err_from_is_err_and}
use Rattle.base.specs.declared.Refusal.TheVariants.{BadRecurrence}
use mathlib.Core.Path.{sym, ap, ◌∙◌}
use Rattle.places.specs.Placed.{of_read}
use Rattle.places.proofs.PlaceLaws.{then-in, on, off, stands-if, stands-else, refuse}
use Rattle.tails.specs.Tail.{parse_day, after_day}
use Rattle.tails.proofs.read_day.Goals as goal

pub zigzag_at-requires : goal.zigzag_at-requires
zigzag_at-requires c = c.requires.0

pub day_ok-requires : goal.day_ok-requires
day_ok-requires c = c.requires.1

pub read_time-requires : goal.read_time-requires
read_time-requires c = then-in c.zigzag_at.ensures _ _ (ap of_read c.in_ok-z.was)

pub returns-then-day_ok : goal.returns-then-day_ok
unfolding parse_day after_day
returns-then-day_ok c = on c.zigzag_at.ensures _ _ _ _
    (ap of_read c.in_ok-z.was)
    (stands-if _ _ _ _ _ (sym c.day_ok.ensures ∙ c.if-day_ok.true) c.read_time.ensures)

pub returns-in_err-z : goal.returns-in_err-z
unfolding parse_day
returns-in_err-z c = let p = err_from_is_err_and c.from_residual.result c.from_residual.ensures.1 in
    rw (p.1, p.2) (off c.zigzag_at.ensures _ _ (ap of_read c.in_err-z.was))

pub returns : goal.returns
unfolding parse_day after_day
returns c = on c.zigzag_at.ensures _ _ _ _ (ap of_read c.in_ok-z.was)
    (stands-else _ _ _ _ _ (sym c.day_ok.ensures ∙ c.if-day_ok.false) (refuse _ BadRecurrence))
