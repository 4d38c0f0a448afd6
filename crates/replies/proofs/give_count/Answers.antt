use Prim.Native.Nat.{◌<◌, ◌^◌}
use mathlib.Core.Path.{ap}
use mir.Syntax.{w64}
use mir.Facts.{to_z_pos}
use Rattle.replies.proofs.ReplyLaws.{gave, denied}
use Rattle.replies.specs.Functions.{count_reply}
use Rattle.replies.proofs.give_count.Goals as goal
use Rattle.replies.proofs.give_count.Goals.{In-Ok}

below : (c : goal.In-Ok) → c.in-Ok.n < 2 ^ 63
below c = rw c.in-Ok.is at c.requires.to

pub overflow_cast-count : goal.overflow_cast-count
overflow_cast-count c = record { sfits = below c }

pub refusal-requires : goal.refusal-requires
refusal-requires c = rw c.in-Err.is at c.requires.to

pub returns-in-Ok : goal.returns-in-Ok
returns-in-Ok c = rw (to_z_pos w64 (below (goal.at.returns-in-Ok c).In-Ok)) (gave _ _ _ (ap count_reply c.in-Ok.is))

pub returns-in-Err : goal.returns-in-Err
returns-in-Err c = denied _ _ _ _ _ (ap count_reply c.in-Err.is) c.refusal.ensures
