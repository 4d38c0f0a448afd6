use mathlib.Core.Path.{ap}
use native.Mathlib.Omega.{arith}
use Rattle.places.specs.Placed.{of_read}
use Rattle.places.proofs.PlaceLaws.{then-in, placed-got}
use Rattle.string_search.proofs.SearchLaws.{placed-bad}
use Rattle.countries.proofs.StepLaws.{none_left, none_here, country-here, read_past, read-unnamed, read-uncoded, read-both}
use Rattle.countries.proofs.step.Goals as goal

pub returns-then-left-eq0 : goal.returns-then-left-eq0
returns-then-left-eq0 c = none_left _ _ _ c.if-left-eq0.true

pub returns-then-s-at : goal.returns-then-s-at
returns-then-s-at c = none_here _ _ _ _ (read_past _ _ c.if-s-at.true)

pub count_at-requires-in-Ok : goal.count_at-requires-in-Ok
count_at-requires-in-Ok c = then-in c.count_at.ensures _ _ (ap of_read c.in-Ok.is)

pub returns-in-Err : goal.returns-in-Err
returns-in-Err c = none_here _ _ _ _ (read-unnamed _ _ (placed-bad c.count_at.ensures _ (ap of_read c.in-Err.is)))

pub returns-in-Err-count_at : goal.returns-in-Err-count_at
returns-in-Err-count_at c = none_here _ _ _ _
    (read-uncoded _ _ _ _
    (placed-got c.count_at.ensures _ _ (ap of_read c.in-Ok.is))
    (placed-bad c.count_at-in-Ok.ensures _ (ap of_read c.in-Err-count_at.is)))

pub returns-in-Ok-count_at : goal.returns-in-Ok-count_at
returns-in-Ok-count_at c = country-here _ _ _ _ _ _ (omega arith)
    (then-in c.count_at-in-Ok.ensures _ _ (ap of_read c.in-Ok-count_at.is))
    (read-both _ _ _ _ _
    (placed-got c.count_at.ensures _ _ (ap of_read c.in-Ok.is))
    (placed-got c.count_at-in-Ok.ensures _ _ (ap of_read c.in-Ok-count_at.is)))
