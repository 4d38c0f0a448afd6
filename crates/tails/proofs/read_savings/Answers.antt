use Rattle.std.proofs.lemmas.Result.{err_from_is_err_and}
use Rattle.base.specs.declared.Refusal.TheVariants.{BadRecurrence}
use native.Mathlib.Omega.{arith}
use Rattle.places.proofs.ValueLaws.{sum-high}
use mathlib.Core.Path.{refl, sym, ap, ◌∙◌}
use Rattle.places.specs.Placed.{of_read}
use Rattle.places.proofs.PlaceLaws.{placed-got, then-in, on, off, stands-if, stands-else, refuse, here}
use Rattle.tails.specs.Tail.{after_savings, parse_savings}
use Rattle.tails.proofs.read_savings.Goals as goal

pub sum_at-requires : goal.sum_at-requires
sum_at-requires c = c.requires.0

pub sum_ok-requires : goal.sum_ok-requires
sum_ok-requires c = let at_most =
    sum-high _ c.in_ok-savings.savings _
    (placed-got c.sum_at.ensures _ _ (ap of_read c.in_ok-savings.was)) in
    (c.requires.1, omega (arith, at_most))

pub returns-then-sum_ok : goal.returns-then-sum_ok
unfolding parse_savings after_savings
returns-then-sum_ok c = on c.sum_at.ensures _ _ _ _
    (ap of_read c.in_ok-savings.was)
    (stands-if _ _ _ _ _ (sym c.sum_ok.ensures ∙ c.if-sum_ok.true)
    (here _ _ _ _ refl
    (then-in c.sum_at.ensures _ _
    (ap of_read c.in_ok-savings.was))))

pub returns-in_err-savings : goal.returns-in_err-savings
unfolding parse_savings
returns-in_err-savings c = let p = err_from_is_err_and c.from_residual.result c.from_residual.ensures.1 in
    rw (p.1, p.2) (off c.sum_at.ensures _ _ (ap of_read c.in_err-savings.was))

pub returns : goal.returns
unfolding parse_savings after_savings
returns c = on c.sum_at.ensures _ _ _ _
    (ap of_read c.in_ok-savings.was)
    (stands-else _ _ _ _ _ (sym c.sum_ok.ensures ∙ c.if-sum_ok.false) (refuse _ BadRecurrence))
