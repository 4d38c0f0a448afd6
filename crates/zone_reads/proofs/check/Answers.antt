use Rattle.std.proofs.lemmas.Result.{err_from_is_err_and}
use mathlib.Core.Bool.{false}
use Rattle.base.specs.Pick.{both}
use Rattle.pieces.specs.Form.{data_preferred}
use Rattle.zones.specs.Parse.{parse_zone}
use mathlib.Core.Path.{sym, ◌∙◌}
use Rattle.lookups.proofs.WalkLaws.{verdict-is}
use Rattle.zone_reads.proofs.check.Goals as goal

pub returns : goal.returns
returns c = verdict-is (both false (data_preferred c.args.s.now)) (parse_zone c.args.pool c.args.s.now) _ (sym c.in_ok-id.was ∙ c.check_form.ensures)

pub returns-in_err-id : goal.returns-in_err-id
returns-in_err-id c = let p = err_from_is_err_and c.from_residual.result c.from_residual.ensures.1 in
    rw (p.1, p.2) (verdict-is (both false (data_preferred c.args.s.now)) (parse_zone c.args.pool c.args.s.now) _ (sym c.in_err-id.was ∙ c.check_form.ensures))
