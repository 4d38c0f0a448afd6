use Prim.Native.Nat.{◌<◌, ◌^◌}
use mathlib.Core.Path.{ap}
use mir.Syntax.{w64}
use mir.Facts.{to_z-of_z, to_z_pos}
use Rattle.replies.specs.Functions.{number_reply}
use Rattle.replies.proofs.ReplyLaws.{gave, denied-number}
use borrow.Author.Rules.{rules}
use Rattle.replies.proofs.give_number.Goals as goal
use Rattle.replies.proofs.give_number.Goals.{In-Ok}

below : (c : goal.In-Ok) → c.in-Ok.n < 2 ^ 63
below c = rw c.in-Ok.is at c.requires.to

pub overflow_cast-out : goal.overflow_cast-out
overflow_cast-out c = record { sfits = below (goal.at.overflow_cast-out c).In-Ok }

pub returns-in-Ok : goal.returns-in-Ok
returns-in-Ok c = rw (
  to_z-of_z {w = w64} {z = c.in-Ok.v} (search rules),
  to_z_pos w64 (below (goal.at.returns-in-Ok c).In-Ok),
)
    (gave _ _ _ (ap number_reply c.in-Ok.is))

pub returns-in-Err : goal.returns-in-Err
returns-in-Err c = denied-number _ _ _ _ (ap number_reply c.in-Err.is) c.number.ensures
