use Rattle.closed_walks.proofs.PlaceLaws.{place-start, place-next, place_end, out-of-place}
use Rattle.closed_walks.proofs.in_place.Goals as goal

pub loop-i-init : goal.loop-i-init
loop-i-init c = place-start _

pub returns-then-k-i : goal.returns-then-k-i
returns-then-k-i c = out-of-place _

pub loop-i-preserved : goal.loop-i-preserved
loop-i-preserved c = place-next _ _ c.loop-i.invariant c.if-k-i.false

pub returns : goal.returns
returns c = place_end _ _ c.loop-i.invariant c.loop-i-test.false
