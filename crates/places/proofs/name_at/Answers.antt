use Rattle.std.proofs.lemmas.Result.{err_from_is_err_and}
use mathlib.Core.Path.{ap}
use Rattle.places.specs.Placed.{of_read}
use Rattle.places.specs.Name.{parse_name}
use Rattle.places.proofs.PlaceLaws.{on, off, then-in, name_in, name_out}
use Rattle.places.proofs.name_at.Goals as goal

pub returns-then-n-pool : goal.returns-then-n-pool
unfolding parse_name
returns-then-n-pool c = on c.count_at.ensures _ _ _ _ (ap of_read c.in_ok-n.was)
    (name_in _ _ _ _ c.if-n-pool.true
    (then-in c.count_at.ensures _ _ (ap of_read c.in_ok-n.was)))

pub returns : goal.returns
unfolding parse_name
returns c = on c.count_at.ensures _ _ _ _ (ap of_read c.in_ok-n.was)
    (name_out _ _ _ _ c.if-n-pool.false)

pub returns-in_err-n : goal.returns-in_err-n
unfolding parse_name
returns-in_err-n c = let p = err_from_is_err_and c.from_residual.result c.from_residual.ensures.1 in
    rw (p.1, p.2) (off c.count_at.ensures _ _ (ap of_read c.in_err-n.was))
