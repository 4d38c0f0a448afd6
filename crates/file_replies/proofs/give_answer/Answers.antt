use Prim.Native.Nat.{◌<◌, ◌^◌}
use mathlib.Core.Path.{ap}
use mir.Syntax.{w64}
use mir.Facts.{to_z-of_z, to_z_pos}
use Rattle.replies.proofs.ReplyLaws.{gave, denied}
use Rattle.file_replies.specs.Functions.{answer_reply}
use Rattle.file_replies.proofs.give_answer.Goals as goal
use Rattle.file_replies.proofs.give_answer.Goals.{In-Ok}

below : (c : goal.In-Ok) → (c.in-Ok.x.name < 2 ^ 63) × (c.in-Ok.x.length < 2 ^ 63)
below c = rw c.in-Ok.is at c.requires.to

pub overflow_cast-out : goal.overflow_cast-out
overflow_cast-out c = record { sfits = (below (goal.at.overflow_cast-out c).In-Ok).0 }

pub overflow_cast-out-in-Ok : goal.overflow_cast-out-in-Ok
overflow_cast-out-in-Ok c = record { sfits = (below (goal.at.overflow_cast-out-in-Ok c).In-Ok).1 }

pub refusal-requires : goal.refusal-requires
refusal-requires c = rw c.in-Err.is at c.requires.to

pub returns-in-Ok : goal.returns-in-Ok
returns-in-Ok c = rw (
  to_z-of_z {w = w64} {z = c.in-Ok.x.wall} (record { sfits = c.struct_told-1.given.0.1 }),
  to_z-of_z {w = w64} {z = c.in-Ok.x.savings} (record { sfits = c.struct_told-1.given.1.0.1 }),
  to_z-of_z {w = w64} {z = c.in-Ok.x.standard} (record { sfits = c.struct_told-1.given.1.1.0.1 }),
  to_z_pos w64 (below (goal.at.returns-in-Ok c).In-Ok).0,
  to_z_pos w64 (below (goal.at.returns-in-Ok c).In-Ok).1,
  to_z-of_z {w = w64} {z = c.in-Ok.x.start} (record { sfits = c.struct_told-1.given.1.1.1.1.1.0.1 }),
  to_z-of_z {w = w64} {z = c.in-Ok.x.end} (record { sfits = c.struct_told-1.given.1.1.1.1.1.1.0.1 }),
)
    (gave _ _ _ (ap answer_reply c.in-Ok.is))

pub returns-in-Err : goal.returns-in-Err
returns-in-Err c = denied _ _ _ _ _ (ap answer_reply c.in-Err.is) c.refusal.ensures
