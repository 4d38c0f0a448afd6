use mathlib.Core.Path.{ap}
use native.Mathlib.Omega.{arith}
use Rattle.places.specs.Placed.{of_read}
use Rattle.places.proofs.PlaceLaws.{stands-is, placed-got, then-in}
use Rattle.string_search.proofs.SearchLaws.{string-room, skipping-start, skipping-bad, skipping-next, skipping-done}
use Rattle.string_search.proofs.nth_string.Goals as goal

pub loop-left-init : goal.loop-left-init
loop-left-init c = skipping-start _ _ _ c.requires

pub string_at-t-requires : goal.string_at-t-requires
string_at-t-requires c = c.loop-left.invariant.inside

pub returns-in-Err : goal.returns-in-Err
returns-in-Err c = skipping-bad _ _ _ _ _ c.loop-left.invariant (omega arith) _
    (stands-is c.string_at-t.ensures (ap of_read c.in-Err.is))

pub overflow_add-at : goal.overflow_add-at
overflow_add-at c = omega (
  arith,
  string-room c.args.d.now _ _ _
      (placed-got c.string_at-t.ensures _ _ (ap of_read c.in-Ok.is))
      (then-in c.string_at-t.ensures _ _ (ap of_read c.in-Ok.is)),
)

pub loop-left-preserved : goal.loop-left-preserved
loop-left-preserved c = skipping-next _ _ _ _ _ c.loop-left.invariant (omega arith) _ _
    (stands-is c.string_at-t.ensures (ap of_read c.in-Ok.is))
    (string-room _ _ _ _
    (placed-got c.string_at-t.ensures _ _ (ap of_read c.in-Ok.is))
    (then-in c.string_at-t.ensures _ _ (ap of_read c.in-Ok.is)))

pub string_at-requires : goal.string_at-requires
string_at-requires c = c.loop-left.invariant.inside

pub returns : goal.returns
returns c = skipping-done _ _ _ _ _ c.loop-left.invariant (omega arith) _ c.string_at.ensures
