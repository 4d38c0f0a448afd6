use mathlib.Core.Path.{ap}
use native.Mathlib.Omega.{arith}
use Rattle.places.specs.Placed.{of_read}
use Rattle.places.proofs.PlaceLaws.{stands-is}
use Rattle.places.proofs.ShortLaws.{details-mean}
use Rattle.pieces.proofs.PieceLaws.{end-all, end-details, short-end, end-at, end-no}
use Rattle.pieces.proofs.piece_end.Goals as goal

pub returns-then-n-eq0 : goal.returns-then-n-eq0
returns-then-n-eq0 c = end-at _ _ c.args.at _ _ (end-all _ c.args.at _ (omega arith))

pub returns-then-short_details : goal.returns-then-short_details
returns-then-short_details c = end-at _ _ _ _ _ (short-end _ _ c.args.at c.if-n-eq0.false (details-mean c.args.s.now c.args.at _ (omega arith) c.short_details.ensures c.if-short_details.true))

pub returns-in-Err : goal.returns-in-Err
returns-in-Err c = end-no _ _ c.args.at _ (end-details _ c.args.at _ _ c.if-n-eq0.false (stands-is c.behind_details.ensures (ap of_read c.in-Err.is)))

pub returns-in-Ok : goal.returns-in-Ok
returns-in-Ok c = end-at _ _ c.args.at _ _ (end-details _ c.args.at _ _ c.if-n-eq0.false (stands-is c.behind_details.ensures (ap of_read c.in-Ok.is)))
