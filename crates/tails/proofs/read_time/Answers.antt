use Rattle.std.proofs.lemmas.Result.{err_from_is_err_and}
use Rattle.base.specs.declared.Refusal.TheVariants.{BadRecurrence}
use mathlib.Core.Path.{sym, ap, ◌∙◌}
use Rattle.places.specs.Placed.{of_read}
use Rattle.places.proofs.PlaceLaws.{then-in, on, off, stands-if, stands-else, refuse, here}
use Rattle.tails.specs.Tail.{parse_time, after_time}
use Rattle.tails.proofs.read_time.Goals as goal

pub rule_of-requires : goal.rule_of-requires
rule_of-requires c = sym c.time_ok.ensures ∙ c.if-time_ok.true

pub returns-then-time_ok : goal.returns-then-time_ok
unfolding parse_time after_time
returns-then-time_ok c = on c.sum_at.ensures _ _ _ _
    (ap of_read c.in_ok-time.was)
    (stands-if _ _ _ _ _ (sym c.time_ok.ensures ∙ c.if-time_ok.true)
    (here _ _ _ _ c.rule_of.ensures
    (then-in c.sum_at.ensures _ _
    (ap of_read c.in_ok-time.was))))

pub returns-in_err-time : goal.returns-in_err-time
unfolding parse_time
returns-in_err-time c = let p = err_from_is_err_and c.from_residual.result c.from_residual.ensures.1 in
    rw (p.1, p.2) (off c.sum_at.ensures _ _ (ap of_read c.in_err-time.was))

pub returns : goal.returns
unfolding parse_time after_time
returns c = on c.sum_at.ensures _ _ _ _ (ap of_read c.in_ok-time.was)
    (stands-else _ _ _ _ _ (sym c.time_ok.ensures ∙ c.if-time_ok.false) (refuse _ BadRecurrence))
