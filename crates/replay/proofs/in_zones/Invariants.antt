use mathlib.Core.Path.{◌≡◌}
use lib.ListN.{length}
use Rattle.replay.proofs.ReplayLaws.{Replayed}
use Rattle.replay.proofs.in_zones.Given as goal

abbrev pub invariant-loop-left : goal.invariant-loop-left
invariant-loop-left l = Replayed l.f l.d l.e l.names l.s l.n l.at l.order l.froms l.tos l.marks l.kept l.last l.p l.left l.i l.place × (length l.order ≡ 8449)

abbrev pub decreases-loop-left : goal.decreases-loop-left
decreases-loop-left l = l.left
