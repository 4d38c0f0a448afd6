use mathlib.Core.Path.{ap}
use native.Mathlib.Omega.{arith}
use Rattle.places.specs.Placed.{of_read}
use Rattle.places.proofs.PlaceLaws.{placed-got, stands-is}
use Rattle.pieces.proofs.PieceLaws.{flag-other, flag-cut, flag-listed, count_small}
use Rattle.pieces.proofs.behind_flag.Goals as goal

pub returns-then-flag-ne2 : goal.returns-then-flag-ne2
returns-then-flag-ne2 c = flag-other _ c.args.at _ c.if-flag-ne2.true

pub overflow_add-result : goal.overflow_add-result
overflow_add-result c = omega (arith, count_small _ _ _ (placed-got c.count_at.ensures _ _ (ap of_read c.in-Ok.is)))

pub returns-in-Err : goal.returns-in-Err
returns-in-Err c = flag-cut _ c.args.at _ _ c.if-flag-ne2.false (stands-is c.count_at.ensures (ap of_read c.in-Err.is))

pub returns-in-Ok : goal.returns-in-Ok
returns-in-Ok c = flag-listed _ c.args.at _ _ _ c.if-flag-ne2.false (stands-is c.count_at.ensures (ap of_read c.in-Ok.is))
