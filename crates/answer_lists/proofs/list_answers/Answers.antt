use Rattle.std.proofs.lemmas.Result.{err_from_is_err_and}
use mathlib.Core.Path.{◌≡◌, sym, ◌∙◌}
use native.Mathlib.Omega.{arith}
use mir.Syntax.{w64}
use mir.Facts.{to_z-of_z}
use Rattle.signed.specs.Instant.{instant_of}
use Rattle.signed.proofs.IntegerLaws.{instant-finite}
use Rattle.found_zones.specs.FoundZone.{ask_zone}
use Rattle.found_zones.proofs.InsideLaws.{zone-name}
use Rattle.answer_lists.proofs.ListLaws.{put-length, lists-denied, lists-short, lists-one, lists-full, lists-more}
use Rattle.answer_lists.proofs.list_answers.Goals as goal
use Rattle.answer_lists.proofs.list_answers.Goals.{After-ask_zone, After-instant-e}

asked : (c : goal.After-ask_zone) → c.ask_zone.result ≡ ask_zone c.args.file.now c.args.v c.args.ticks c.args.edition
asked c = rw (to_z-of_z c.ranges.ticks) at c.ask_zone.ensures

-- where the first interval ends
ended : (c : goal.After-instant-e) → c.instant-e.result ≡ instant_of c.in_ok-x.x.end
ended c =
    rw (to_z-of_z {w = w64} {z = c.in_ok-x.x.end} (record { sfits = c.struct_told-1.given.1.1.1.1.1.1.0.1 })) at c.instant-e.ensures

pub returns-then-rows-lt7 : goal.returns-then-rows-lt7
returns-then-rows-lt7 c = lists-short _ _ _ _ _ _ (asked (goal.at.returns-then-rows-lt7 c).After-ask_zone) _ c.in_ok-x.was c.if-rows-lt7.true

pub put_row-requires : goal.put_row-requires
put_row-requires c = let l = zone-name _ _ _ _ _ (sym (asked (goal.at.put_row-requires c).After-ask_zone) ∙ c.in_ok-x.was) in
    (omega (arith, l, c.well_formed.0.1), omega (arith, l, c.well_formed.0.1), omega (arith, c.if-rows-lt7.false))

pub returns-then-rows-lt14 : goal.returns-then-rows-lt14
returns-then-rows-lt14 c = lists-full _ _ _ _ _ _ (asked (goal.at.returns-then-rows-lt14 c).After-ask_zone) _ c.in_ok-x.was c.if-rows-lt7.false _ c.put_row.ensures c.if-rows-lt14.true

pub returns-then-e-eq0 : goal.returns-then-e-eq0
returns-then-e-eq0 c = lists-one _ _ _ _ _ _ (asked (goal.at.returns-then-e-eq0 c).After-ask_zone) _ c.in_ok-x.was c.if-rows-lt7.false _ (ended (goal.at.returns-then-e-eq0 c).After-instant-e) c.if-e-eq0.true _ c.put_row.ensures

pub list_behind-requires : goal.list_behind-requires
list_behind-requires c = (instant-finite _ _ (ended (goal.at.list_behind-requires c).After-instant-e) c.if-e-eq0.false, put-length c.args.rows.now _ c.in_ok-x.x c.put_row.ensures c.if-rows-lt7.false)

pub returns-in_err-x : goal.returns-in_err-x
returns-in_err-x c = let p = err_from_is_err_and c.from_residual.result c.from_residual.ensures.1 in
    rw (p.1, p.2) (lists-denied _ _ _ _ _ _ (asked (goal.at.returns-in_err-x c).After-ask_zone) _ _ c.in_err-x.was)

pub returns : goal.returns
returns c = lists-more _ _ _ _ _ _ (asked (goal.at.returns c).After-ask_zone) _ c.in_ok-x.was c.if-rows-lt7.false _ (ended (goal.at.returns c).After-instant-e) c.if-e-eq0.false _ c.put_row.ensures _ _ c.list_behind.ensures
