use Rattle.std.proofs.lemmas.Result.{err_from_is_err_and}
use Rattle.base.specs.declared.Refusal.TheVariants.{BadRecurrence}
use mathlib.Core.Path.{sym, ap, ◌∙◌}
use Rattle.places.specs.Placed.{of_read}
use Rattle.places.proofs.PlaceLaws.{then-in, on, off, stands-if, stands-else, refuse}
use Rattle.tails.specs.Tail.{parse_rule, after_byte}
use Rattle.tails.proofs.read_rule.Goals as goal

pub read_month-requires : goal.read_month-requires
read_month-requires c = then-in c.byte_at.ensures _ _ (ap of_read c.in_ok-b.was)

pub returns-then-rule_byte_ok : goal.returns-then-rule_byte_ok
unfolding parse_rule after_byte
returns-then-rule_byte_ok c = on c.byte_at.ensures _ _ _ _
    (ap of_read c.in_ok-b.was)
    (stands-if _ _ _ _ _ (sym c.rule_byte_ok.ensures ∙ c.if-rule_byte_ok.true) c.read_month.ensures)

pub returns-in_err-b : goal.returns-in_err-b
unfolding parse_rule
returns-in_err-b c = let p = err_from_is_err_and c.from_residual.result c.from_residual.ensures.1 in
    rw (p.1, p.2) (off c.byte_at.ensures _ _ (ap of_read c.in_err-b.was))

pub returns : goal.returns
unfolding parse_rule after_byte
returns c = on c.byte_at.ensures _ _ _ _ (ap of_read c.in_ok-b.was)
    (stands-else _ _ _ _ _ (sym c.rule_byte_ok.ensures ∙ c.if-rule_byte_ok.false) (refuse _ BadRecurrence))
