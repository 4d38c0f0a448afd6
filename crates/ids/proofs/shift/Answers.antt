use mathlib.Core.Path.{◌≡◌, subst}
use native.Mathlib.Omega.{arith}
use Rattle.ids.specs.Parts.{Shifted}
use Rattle.ids.proofs.BufferLaws.{shifted_none, shifted-more}
use Rattle.ids.proofs.shift.Goals as goal

pub loop-i-init : goal.loop-i-init
loop-i-init c = (omega arith, omega arith, shifted_none _ _ _)

pub bounds-order-i : goal.bounds-order-i
bounds-order-i c = omega (arith, c.loop-i.invariant.2.room)

pub bounds-order-i-in-loop-i : goal.bounds-order-i-in-loop-i
bounds-order-i-in-loop-i c = omega (arith, c.loop-i.invariant.2.room)

pub loop-i-preserved : goal.loop-i-preserved
loop-i-preserved c = (omega arith, omega arith, shifted-more _ _ c.loop-i.i _ _ c.loop-i.invariant.2 (omega arith) (omega arith) (omega arith))

pub returns : goal.returns
returns c = let e : c.loop-i.i ≡ c.args.from = omega arith in subst (λ i. Shifted c.args.order.now i c.args.to c.args.many c.loop-i.order) e c.loop-i.invariant.2
