use Prim.Native.Nat.{◌-◌}
use native.Mathlib.Omega.{arith}
use Rattle.replay.proofs.key.Goals as goal

pub overflow_add-h : goal.overflow_add-h
overflow_add-h c = omega (arith, c.four_at.ensures.1, c.loop-i.invariant.0)

pub overflow_cast-h : goal.overflow_cast-h
overflow_cast-h c = omega (arith, c.shared_slice_known-in-loop-i-2-1.given c.loop-i-2.i)

pub overflow_add-h-in-loop-i-2 : goal.overflow_add-h-in-loop-i-2
overflow_add-h-in-loop-i-2 c = omega (arith, c.shared_slice_known-in-loop-i-2-1.given c.loop-i-2.i, c.loop-i-2.invariant.0)
