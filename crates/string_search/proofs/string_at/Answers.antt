use Rattle.std.proofs.lemmas.Result.{err_from_is_err_and}
use mathlib.Core.Path.{ap}
use Rattle.places.specs.Placed.{of_read}
use Rattle.places.proofs.PlaceLaws.{then-in, on, off}
use Rattle.string_search.specs.Search.{parse_string}
use Rattle.string_search.proofs.SearchLaws.{length-in, length-out}
use Rattle.string_search.proofs.string_at.Goals as goal

pub overflow_sub-d : goal.overflow_sub-d
overflow_sub-d c = then-in c.count_at.ensures _ _ (ap of_read c.in_ok-n.was)

pub returns-then-d-a : goal.returns-then-d-a
unfolding parse_string
returns-then-d-a c = on c.count_at.ensures _ _ _ _ (ap of_read c.in_ok-n.was)
    (length-out _ _ _ c.if-d-a.true)

pub returns-in_err-n : goal.returns-in_err-n
unfolding parse_string
returns-in_err-n c = let p = err_from_is_err_and c.from_residual.result c.from_residual.ensures.1 in
    rw (p.1, p.2) (off c.count_at.ensures _ _ (ap of_read c.in_err-n.was))

pub returns : goal.returns
unfolding parse_string
returns c = on c.count_at.ensures _ _ _ _ (ap of_read c.in_ok-n.was)
    (length-in _ _ _ (then-in c.count_at.ensures _ _ (ap of_read c.in_ok-n.was)) c.if-d-a.false)
