use mathlib.Core.Path.{ap}
use Rattle.places.specs.Placed.{of_read}
use Rattle.places.proofs.PlaceLaws.{then-in, placed-got}
use Rattle.string_search.proofs.SearchLaws.{placed-bad, span-uncounted, span-past, span-bad, span-here}
use Rattle.string_search.proofs.find_string.Goals as goal

pub returns-then-n-k : goal.returns-then-n-k
returns-then-n-k c = span-past _ _ _ _ (placed-got c.count_at.ensures _ _ (ap of_read c.in-Ok.is)) c.if-n-k.true

pub nth_string-requires : goal.nth_string-requires
nth_string-requires c = then-in c.count_at.ensures _ _ (ap of_read c.in-Ok.is)

pub returns-in-Err : goal.returns-in-Err
returns-in-Err c = span-uncounted _ _ _ (placed-bad c.count_at.ensures _ (ap of_read c.in-Err.is))

pub returns-in-Err-nth_string : goal.returns-in-Err-nth_string
returns-in-Err-nth_string c = span-bad _ _ _ _ _ (placed-got c.count_at.ensures _ _ (ap of_read c.in-Ok.is))
    c.if-n-k.false (placed-bad c.nth_string.ensures _ (ap of_read c.in-Err-nth_string.is))

pub returns-in-Ok-nth_string : goal.returns-in-Ok-nth_string
returns-in-Ok-nth_string c = span-here _ _ _ _ _ _ (placed-got c.count_at.ensures _ _ (ap of_read c.in-Ok.is))
    c.if-n-k.false (placed-got c.nth_string.ensures _ _ (ap of_read c.in-Ok-nth_string.is))
    (then-in c.nth_string.ensures _ _ (ap of_read c.in-Ok-nth_string.is))
