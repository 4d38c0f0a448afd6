use Rattle.std.proofs.lemmas.Result.{err_from_is_err_and}
use mathlib.Core.Path.{sym, ◌∙◌}
use Rattle.file_locations.proofs.ByFieldLaws.{by-6, by-7, by-ill, by-none}
use Rattle.file_locations.proofs.location_by.Goals as goal

pub returns-then-field-eq6 : goal.returns-then-field-eq6
returns-then-field-eq6 c = by-6 _ _ _ _ c.if-field-eq6.true c.location.ensures

pub returns-then-field-eq7 : goal.returns-then-field-eq7
returns-then-field-eq7 c = by-7 _ _ _ c.if-field-eq6.false _ c.if-field-eq7.true c.location-then-field-eq7.ensures

pub returns-in_err-check : goal.returns-in_err-check
returns-in_err-check c = let p = err_from_is_err_and c.from_residual.result c.from_residual.ensures.1 in
    rw (p.1, p.2) (by-ill _ _ _ c.if-field-eq6.false c.if-field-eq7.false _ _
    (sym c.in_err-check.was ∙ c.check.ensures))

pub returns : goal.returns
returns c = by-none _ _ _ c.if-field-eq6.false c.if-field-eq7.false
    (sym c.in_ok-check.was ∙ c.check.ensures)
