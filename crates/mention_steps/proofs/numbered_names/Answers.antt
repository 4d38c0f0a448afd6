use Rattle.std.proofs.lemmas.Result.{err_from_is_err_and}
use mathlib.Core.Path.{refl, ap}
use Rattle.places.specs.Placed.{of_read}
use Rattle.places.proofs.PlaceLaws.{then-in, on, off, here, placed-got}
use Rattle.mentions.specs.Walk.{numbered_names}
use native.Mathlib.Omega.{arith}
use Rattle.mentions.proofs.WalkLaws.{zigzag-small}
use Rattle.mention_steps.proofs.numbered_names.Goals as goal

pub overflow_mul-result : goal.overflow_mul-result
overflow_mul-result c = omega (arith, zigzag-small _ _ _ (placed-got c.zigzag_at.ensures _ _ (ap of_read c.in_ok-v.was)))

pub overflow_add-result : goal.overflow_add-result
overflow_add-result c = omega (arith, zigzag-small _ _ _ (placed-got c.zigzag_at.ensures _ _ (ap of_read c.in_ok-v.was)))

pub returns-in_err-v : goal.returns-in_err-v
unfolding numbered_names
returns-in_err-v c = let p = err_from_is_err_and c.from_residual.result c.from_residual.ensures.1 in
    rw (p.1, p.2) (off c.zigzag_at.ensures _ _ (ap of_read c.in_err-v.was))

pub returns : goal.returns
unfolding numbered_names
returns c = on c.zigzag_at.ensures _ _ _ _ (ap of_read c.in_ok-v.was) (here _ _ _ _ refl (then-in c.zigzag_at.ensures _ _ (ap of_read c.in_ok-v.was)))
