use Prim.Native.Nat.{◌-◌}
use native.Mathlib.Omega.{arith}
use Rattle.cursor_steps.proofs.walk.Goals as goal

pub loop-x-init : goal.loop-x-init
loop-x-init c = (c.requires.0, c.requires.1)

pub next-x-requires : goal.next-x-requires
next-x-requires c = (c.loop-x.invariant.0, c.loop-x-test.true, c.requires.2)

pub loop-x-smaller : goal.loop-x-smaller
loop-x-smaller c = omega (arith, c.loop-x-test.true, c.requires.2.high, c.next-x.ensures.2)

pub loop-x-preserved : goal.loop-x-preserved
loop-x-preserved c = (c.next-x.ensures.0, c.next-x.ensures.1)

pub returns : goal.returns
returns c = record { points = c.loop-x.invariant.0; holds = record { from = c.loop-x.invariant.1; to = c.loop-x-test.false } }
