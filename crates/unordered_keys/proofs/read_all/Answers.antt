use mathlib.Core.Path.{refl, ◌∙◌}
use native.Mathlib.Omega.{arith}
use Prim.Native.Nat.{◌-◌}
use Rattle.unordered_keys.proofs.StepLaws.{arrays, reading-start, reading-bad, reading-next, reading-done}
use Rattle.unordered_keys.proofs.read_all.Goals as goal

pub loop-done-init : goal.loop-done-init
loop-done-init c = (refl, refl, refl, reading-start _ _ _ _ _ _ c.requires.0 c.requires.1)

pub take_entry-t-requires : goal.take_entry-t-requires
take_entry-t-requires c = (c.requires.0, c.loop-done.invariant.3.walk.inside, arrays _ _ _ _ _ _ c.loop-done.invariant.3.remembers)

pub shape_of-starts-in-Err : goal.shape_of-starts-in-Err
shape_of-starts-in-Err c = c.starts-1.given ∙ c.loop-done.invariant.0

pub shape_of-ends-in-Err : goal.shape_of-ends-in-Err
shape_of-ends-in-Err c = c.ends-1.given ∙ c.loop-done.invariant.1

pub shape_of-order-in-Err : goal.shape_of-order-in-Err
shape_of-order-in-Err c = c.order-1.given ∙ c.loop-done.invariant.2

pub returns-in-Err : goal.returns-in-Err
returns-in-Err c = reading-bad _ _ _ _ _ _ _ _ c.loop-done.invariant.3 c.loop-done-test.true _ _ _ _ c.take_entry-t.ensures _ c.in-Err.is

pub overflow_add-done : goal.overflow_add-done
overflow_add-done c = omega (arith, c.loop-done-test.true)

pub loop-done-smaller : goal.loop-done-smaller
loop-done-smaller c = omega (arith, c.loop-done-test.true)

pub loop-done-preserved : goal.loop-done-preserved
loop-done-preserved c = (c.starts-1.given ∙ c.loop-done.invariant.0, c.ends-1.given ∙ c.loop-done.invariant.1, c.order-1.given ∙ c.loop-done.invariant.2, reading-next _ _ _ _ _ _ _ _ c.loop-done.invariant.3 c.loop-done-test.true _ _ _ _ c.take_entry-t.ensures _ c.in-Ok.is)

pub shape_of-starts : goal.shape_of-starts
shape_of-starts c = c.loop-done.invariant.0

pub shape_of-ends : goal.shape_of-ends
shape_of-ends c = c.loop-done.invariant.1

pub shape_of-order : goal.shape_of-order
shape_of-order c = c.loop-done.invariant.2

pub returns : goal.returns
returns c = reading-done _ _ _ _ _ _ _ _ c.loop-done.invariant.3 (omega arith)
