use Rattle.std.proofs.lemmas.Result.{err_from_is_err_and}
use mathlib.Core.Path.{ap}
use Rattle.places.specs.Placed.{of_read}
use Rattle.places.proofs.PlaceLaws.{then-in, then-got, then-bad}
use Rattle.locations.specs.Content.{parse_locations}
use Rattle.locations.proofs.FindLaws.{sought-bad, sought-on}
use Rattle.location_reads.proofs.find.Goals as goal

pub read_locations-requires : goal.read_locations-requires
read_locations-requires c = then-in c.count_at.ensures _ _ (ap of_read c.in_ok-n.was)

pub returns-in_err-n : goal.returns-in_err-n
unfolding parse_locations
returns-in_err-n c = let p = err_from_is_err_and c.from_residual.result c.from_residual.ensures.1 in
    rw (p.1, p.2) (sought-bad _ _ _ _ (then-bad c.count_at.ensures _ _ (ap of_read c.in_err-n.was)))

pub returns : goal.returns
unfolding parse_locations
returns c = sought-on _ _ _ _ _
    (then-got c.count_at.ensures _ _ _ (ap of_read c.in_ok-n.was))
    c.read_locations.ensures
