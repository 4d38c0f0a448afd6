use mathlib.Core.Path.{sym, ap, ◌∙◌}
use native.Mathlib.Omega.{arith}
use Prim.Native.Nat.{◌≤◌}
use Rattle.replies.specs.Functions.{length_result}
use Rattle.replies.proofs.length_result.Goals as goal
use Rattle.replies.proofs.length_result.Goals.{In-Ok}

below : (c : goal.In-Ok) → c.in-Ok.bytes ≤ 4194304
below c = rw c.in-Ok.is at c.requires.to

pub overflow_mul-result : goal.overflow_mul-result
overflow_mul-result c = omega (arith, below c)

pub refusal-requires : goal.refusal-requires
refusal-requires c = rw c.in-Err.is at c.requires.to

pub returns-in-Ok : goal.returns-in-Ok
returns-in-Ok c = ap length_result (sym c.in-Ok.is)

pub returns-in-Err : goal.returns-in-Err
returns-in-Err c = c.refusal.ensures ∙ ap length_result (sym c.in-Err.is)
