use Rattle.closed_walks.proofs.PlaceLaws.{InPlaceTo}
use Rattle.closed_walks.proofs.in_place.Given as goal

abbrev pub invariant-loop-i : goal.invariant-loop-i
invariant-loop-i l = InPlaceTo l.order l.i
