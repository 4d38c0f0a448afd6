use Rattle.std.proofs.lemmas.Result.{err_from_is_err_and}
use mathlib.Core.Path.{sym, ◌∙◌}
use Rattle.location_lookup.proofs.LookupLaws.{checked-ill, checked-good}
use Rattle.file_locations.proofs.location.Goals as goal

pub returns-in_err-check : goal.returns-in_err-check
returns-in_err-check c = let p = err_from_is_err_and c.from_residual.result c.from_residual.ensures.1 in
    rw (p.1, p.2) (checked-ill _ _ _ _ _ (sym c.in_err-check.was ∙ c.check.ensures))

pub returns : goal.returns
returns c = checked-good _ _ _ _ (sym c.in_ok-check.was ∙ c.check.ensures) c.in_file.ensures
