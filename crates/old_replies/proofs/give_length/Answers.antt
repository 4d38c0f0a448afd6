use native.Mathlib.Omega.{arith}
use mathlib.Core.Path.{refl}
use Rattle.old_replies.proofs.give_length.Goals as goal

pub returns-in-Ok : goal.returns-in-Ok
returns-in-Ok c = rw c.in-Ok.is (refl, refl)

pub returns-in-Err : goal.returns-in-Err
returns-in-Err c = rw c.in-Err.is (omega arith, refl)
