use Rattle.std.proofs.lemmas.Result.{err_from_is_err_and}
use mathlib.Core.Path.{ap}
use Rattle.places.specs.Placed.{of_read}
use Rattle.places.proofs.PlaceLaws.{then-in}
use Rattle.aliases.proofs.EntryLaws.{count-bad, count-read}
use Rattle.aliases.proofs.check.Goals as goal

pub take_entries-requires : goal.take_entries-requires
take_entries-requires c = (c.requires.0, c.requires.1, then-in c.count_at.ensures _ _ (ap of_read c.in_ok-n.was))

pub returns-in_err-n : goal.returns-in_err-n
returns-in_err-n c = let p = err_from_is_err_and c.from_residual.result c.from_residual.ensures.1 in
    rw (p.1, p.2) (count-bad _ _ _ c.count_at.ensures _ c.in_err-n.was)

pub returns : goal.returns
returns c = count-read _ _ _ c.count_at.ensures _ _ c.in_ok-n.was _ c.take_entries.ensures
