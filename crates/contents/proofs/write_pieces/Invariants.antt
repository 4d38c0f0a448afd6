use mathlib.Core.List.{List}
use Prim.Native.Nat.{ℕ, ◌-◌}
use Rattle.base.specs.Moment.{end_of_time}
use Rattle.pieces.specs.Content.{print_pieces}
use Rattle.pieces.specs.View.{Put, pieces_at}
use Rattle.pieces.proofs.GoingLaws.{Going}
use Rattle.contents.proofs.write_pieces.Given as goal

abbrev pub invariant-loop-left : goal.invariant-loop-left
invariant-loop-left l = (done : List ℕ) × Going l.s l.left l.place l.prev (print_pieces end_of_time (pieces_at l.s l.n l.at)) done × Put done l.initial.out l.w l.out

abbrev pub decreases-loop-left : goal.decreases-loop-left
decreases-loop-left l = l.left
