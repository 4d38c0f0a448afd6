use Rattle.std.proofs.lemmas.Result.{err_from_is_err_and}
use mathlib.Core.Path.{ap}
use Rattle.places.specs.Placed.{of_read}
use Rattle.places.proofs.PlaceLaws.{then-in, on, off}
use Rattle.locations.specs.Content.{parse_seconds}
use Rattle.locations.proofs.ReadLaws.{seconds-in, seconds-out}
use Rattle.location_reads.proofs.seconds_at.Goals as goal

pub returns-then-most-v : goal.returns-then-most-v
unfolding parse_seconds
returns-then-most-v c = on c.zigzag_at.ensures _ _ _ _ (ap of_read c.in_ok-v.was)
    (seconds-out _ _ _ _ c.if-most-v.true)

pub returns-in_err-v : goal.returns-in_err-v
unfolding parse_seconds
returns-in_err-v c = let p = err_from_is_err_and c.from_residual.result c.from_residual.ensures.1 in
    rw (p.1, p.2) (off c.zigzag_at.ensures _ _ (ap of_read c.in_err-v.was))

pub returns : goal.returns
unfolding parse_seconds
returns c = on c.zigzag_at.ensures _ _ _ _ (ap of_read c.in_ok-v.was)
    (seconds-in _ _ _ _ c.if-most-v.false
    (then-in c.zigzag_at.ensures _ _ (ap of_read c.in_ok-v.was)))
