use mathlib.Core.List.{List, ◌++◌}
use Prim.Native.Nat.{ℕ, ◌+◌, ◌-◌}
use lib.ListN.{length}
use Rattle.pieces.specs.View.{Put}
use Rattle.preferred_walks.proofs.ReadyLaws.{Walking, Pending}
use Rattle.preferred_walks.proofs.write_fields.Given as goal

abbrev pub invariant-loop-at : goal.invariant-loop-at
invariant-loop-at l = (done : List ℕ) × (kept : List ℕ) × Walking l.s l.flags l.at (done ++ kept) × Pending l.s l.from l.at kept × Put done l.initial.out l.w l.out

abbrev pub decreases-loop-at : goal.decreases-loop-at
decreases-loop-at l = length l.s - l.at
