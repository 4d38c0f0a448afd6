use mathlib.Core.Path.{◌≡◌}
use mathlib.Core.List.{List}
use Prim.Native.Nat.{ℕ, ◌-◌}
use lib.ListN.{length}
use Rattle.base.specs.Moment.{end_of_time}
use Rattle.pieces.specs.Content.{print_pieces}
use Rattle.pieces.specs.View.{pieces_at}
use Rattle.pieces.proofs.GoingLaws.{Going}
use Rattle.contents.proofs.pieces_size.Given as goal

abbrev pub invariant-loop-left : goal.invariant-loop-left
invariant-loop-left l = (done : List ℕ) × Going l.s l.left l.place l.prev (print_pieces end_of_time (pieces_at l.s l.n l.at)) done × (l.size ≡ length done)

abbrev pub decreases-loop-left : goal.decreases-loop-left
decreases-loop-left l = l.left
