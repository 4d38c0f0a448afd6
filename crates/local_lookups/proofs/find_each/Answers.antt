use Rattle.std.proofs.lemmas.Result.{err_from_is_err_and}
use mathlib.Core.Path.{ap}
use Rattle.places.proofs.PlaceLaws.{stands-is}
use Rattle.local_times.specs.View.{of_scan}
use Rattle.local_times.proofs.FindLaws.{listed-bad, each-counted}
use Rattle.local_lookups.proofs.find_each.Goals as goal

pub find_behind-requires : goal.find_behind-requires
find_behind-requires c = each-counted _ _ _ _ _ c.requires _ _ (stands-is c.read_intervals.ensures (ap of_scan c.in_ok-c.was))

pub returns-in_err-c : goal.returns-in_err-c
returns-in_err-c c = let p = err_from_is_err_and c.from_residual.result c.from_residual.ensures.1 in
    rw (p.1, p.2) (listed-bad _ _ _ _ _ c.requires _ (stands-is c.read_intervals.ensures (ap of_scan c.in_err-c.was)))
