use Rattle.std.proofs.lemmas.Result.{err_from_is_err_and}
use mathlib.Core.Path.{ap}
use Rattle.places.specs.Placed.{of_read}
use Rattle.places.proofs.PlaceLaws.{then-in, on, off}
use Rattle.mentions.specs.Walk.{before_locations}
use Rattle.mention_steps.proofs.before_locations.Goals as goal

pub before_names-requires : goal.before_names-requires
before_names-requires c = then-in c.count_at.ensures _ _ (ap of_read c.in_ok-n.was)

pub returns-in_err-n : goal.returns-in_err-n
unfolding before_locations
returns-in_err-n c = let p = err_from_is_err_and c.from_residual.result c.from_residual.ensures.1 in
    rw (p.1, p.2) (off c.count_at.ensures _ _ (ap of_read c.in_err-n.was))

pub returns : goal.returns
unfolding before_locations
returns c = on c.count_at.ensures _ _ _ _ (ap of_read c.in_ok-n.was) c.before_names.ensures
