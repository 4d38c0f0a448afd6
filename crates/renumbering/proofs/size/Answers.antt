use Prim.Native.Nat.{◌-◌}
use native.Mathlib.Omega.{arith}
use Rattle.renumbering.proofs.RenumberLaws.{measured-start, measured-bound, measured-on, measured-next, measured-most, measured-end}
use Rattle.renumbering.proofs.NextLaws.{next-none, next-some}
use Rattle.renumbering.proofs.size.Goals as goal

pub loop-behind-init : goal.loop-behind-init
loop-behind-init c = measured-start _ _ _ _ c.first-stage.ensures

pub size_run-c-requires : goal.size_run-c-requires
size_run-c-requires c = (c.loop-behind.invariant.going.within, c.requires)

pub overflow_add-n : goal.overflow_add-n
overflow_add-n c = omega (arith, measured-bound _ _ _ _ _ _ _ (measured-on _ _ _ _ _ _ _ c.loop-behind.invariant _ _ _ c.size_run-c.ensures), c.size_run-c.ensures.going.within, c.requires)

pub next-m-requires : goal.next-m-requires
next-m-requires c = c.size_run-c.ensures.going.within

pub overflow_sub-result : goal.overflow_sub-result
overflow_sub-result c = c.size_run-c.ensures.going.within

pub overflow_add-result : goal.overflow_add-result
overflow_add-result c = omega (arith, measured-bound _ _ _ _ _ _ _ (measured-on _ _ _ _ _ _ _ c.loop-behind.invariant _ _ _ c.size_run-c.ensures), c.size_run-c.ensures.going.within, c.requires)

pub returns-in-None : goal.returns-in-None
returns-in-None c = measured-end _ _ _ _ _ _ _ (measured-on _ _ _ _ _ _ _ c.loop-behind.invariant _ _ _ c.size_run-c.ensures) (next-none _ _ _ _ c.next-m.ensures c.in-None.is)

pub overflow_sub-n : goal.overflow_sub-n
overflow_sub-n c = (next-some _ _ _ _ _ _ _ _ c.next-m.ensures c.in-Some.is).first

pub overflow_add-n-in-Some : goal.overflow_add-n-in-Some
overflow_add-n-in-Some c = omega (arith, measured-most _ _ _ _ _ _ _ (measured-on _ _ _ _ _ _ _ c.loop-behind.invariant _ _ _ c.size_run-c.ensures) _ _ c.count_size.ensures _ _ _ _ (next-some _ _ _ _ _ _ _ _ c.next-m.ensures c.in-Some.is) c.renumber-k.ensures, c.requires)

pub overflow_add-n-in-Some-2 : goal.overflow_add-n-in-Some-2
overflow_add-n-in-Some-2 c = omega (arith, measured-most _ _ _ _ _ _ _ (measured-on _ _ _ _ _ _ _ c.loop-behind.invariant _ _ _ c.size_run-c.ensures) _ _ c.count_size.ensures _ _ _ _ (next-some _ _ _ _ _ _ _ _ c.next-m.ensures c.in-Some.is) c.renumber-k.ensures, c.requires)

pub loop-behind-smaller : goal.loop-behind-smaller
loop-behind-smaller c = let x = (next-some _ _ _ _ _ _ _ _ c.next-m.ensures c.in-Some.is) in omega (arith, x.first, x.rises, x.last, c.size_run-c.ensures.going.onward)

pub loop-behind-preserved : goal.loop-behind-preserved
loop-behind-preserved c = measured-next _ _ _ _ _ _ _ (measured-on _ _ _ _ _ _ _ c.loop-behind.invariant _ _ _ c.size_run-c.ensures) _ _ c.count_size.ensures _ _ _ _ (next-some _ _ _ _ _ _ _ _ c.next-m.ensures c.in-Some.is) c.renumber-k.ensures
