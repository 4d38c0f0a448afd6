use Prim.Native.Nat.{◌≤◌}
use native.Mathlib.Omega.{arith}
use Rattle.replies.proofs.written.Goals as goal
use Rattle.replies.proofs.written.Goals.{In-Ok}

small : (c : goal.In-Ok) → c.in-Ok.n ≤ 4194304
small c = rw c.in-Ok.is at c.requires.to

pub overflow_mul-result : goal.overflow_mul-result
overflow_mul-result c = omega (arith, small c)

pub returns-in-Ok : goal.returns-in-Ok
returns-in-Ok c = rw c.in-Ok.is

pub returns-in-Err : goal.returns-in-Err
returns-in-Err c = rw c.in-Err.is (omega arith)
