use Prim.Native.Nat.{◌<◌, ◌^◌}
use mathlib.Core.Path.{ap}
use mir.Syntax.{w64}
use mir.Facts.{to_z_pos}
use Rattle.replies.proofs.ReplyLaws.{gave, denied}
use Rattle.replies.specs.Functions.{pair_reply}
use Rattle.replies.proofs.give_pair.Goals as goal
use Rattle.replies.proofs.give_pair.Goals.{In-Ok}

below : (c : goal.In-Ok) → (c.in-Ok.a < 2 ^ 63) × (c.in-Ok.n < 2 ^ 63)
below c = rw c.in-Ok.is at c.requires.to

pub overflow_cast-out : goal.overflow_cast-out
overflow_cast-out c = record { sfits = (below (goal.at.overflow_cast-out c).In-Ok).0 }

pub overflow_cast-out-in-Ok : goal.overflow_cast-out-in-Ok
overflow_cast-out-in-Ok c = record { sfits = (below (goal.at.overflow_cast-out-in-Ok c).In-Ok).1 }

pub refusal-requires : goal.refusal-requires
refusal-requires c = rw c.in-Err.is at c.requires.to

pub returns-in-Ok : goal.returns-in-Ok
returns-in-Ok c = rw (to_z_pos w64 (below (goal.at.returns-in-Ok c).In-Ok).0, to_z_pos w64 (below (goal.at.returns-in-Ok c).In-Ok).1) (gave _ _ _ (ap pair_reply c.in-Ok.is))

pub returns-in-Err : goal.returns-in-Err
returns-in-Err c = denied _ _ _ _ _ (ap pair_reply c.in-Err.is) c.refusal.ensures
