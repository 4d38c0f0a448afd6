use Rattle.std.proofs.lemmas.Result.{err_from_is_err_and}
use mathlib.Core.Path.{ap}
use Rattle.places.specs.Placed.{of_read}
use Rattle.places.proofs.PlaceLaws.{then-in, on, off}
use Rattle.mentions.specs.Walk.{behind_interval_count}
use Rattle.zone_mentions.proofs.behind_interval_count.Goals as goal

pub behind_start-requires : goal.behind_start-requires
behind_start-requires c = then-in c.count_at.ensures _ _ (ap of_read c.in_ok-n.was)

pub returns-in_err-n : goal.returns-in_err-n
unfolding behind_interval_count
returns-in_err-n c = let p = err_from_is_err_and c.from_residual.result c.from_residual.ensures.1 in
    rw (p.1, p.2) (off c.count_at.ensures _ _ (ap of_read c.in_err-n.was))

pub returns : goal.returns
unfolding behind_interval_count
returns c = on c.count_at.ensures _ _ _ _ (ap of_read c.in_ok-n.was) c.behind_start.ensures
