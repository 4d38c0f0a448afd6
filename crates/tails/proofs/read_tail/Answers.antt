use Rattle.std.proofs.lemmas.Result.{err_from_is_err_and}
use Rattle.tails.proofs.TailLaws.{standard-high}
use mathlib.Core.Path.{ap}
use Rattle.places.proofs.PlaceLaws.{then-in, on, off}
use Rattle.tails.specs.View.{of_standard}
use Rattle.tails.specs.Tail.{parse_tail}
use Rattle.tails.proofs.read_tail.Goals as goal

pub read_daylight-requires : goal.read_daylight-requires
read_daylight-requires c = (
  then-in c.read_standard.ensures _ _ (ap of_standard c.in_ok-x.was),
  standard-high _ _ _ _
      c.read_standard.ensures _ _ (ap of_standard c.in_ok-x.was),
)

pub returns-in_err-x : goal.returns-in_err-x
unfolding parse_tail
returns-in_err-x c = let p = err_from_is_err_and c.from_residual.result c.from_residual.ensures.1 in
    rw (p.1, p.2) (off c.read_standard.ensures _ _ (ap of_standard c.in_err-x.was))

pub returns : goal.returns
unfolding parse_tail
returns c = on c.read_standard.ensures _ _ _ _ (ap of_standard c.in_ok-x.was)
    c.read_daylight.ensures
