use Prim.Native.Nat.{◌-◌}
use native.Mathlib.Omega.{arith}
use Rattle.renumbering.proofs.NextLaws.{next-none, next-some}
use Rattle.renumbering.proofs.UseLaws.{counting-start, run_room, counting-run, counting-next, counting-room, counting-end}
use Rattle.renumbering.proofs.count.Goals as goal

pub loop-behind-init : goal.loop-behind-init
loop-behind-init c = counting-start _ _ _ _ c.first-stage.ensures c.requires

pub count_run-c-requires : goal.count_run-c-requires
count_run-c-requires c = (c.loop-behind.invariant.within, run_room _ _ _ _ _ _ c.loop-behind.invariant)

pub next-m-requires : goal.next-m-requires
next-m-requires c = c.count_run-c.ensures.within

pub shape_of-uses-in-None : goal.shape_of-uses-in-None
shape_of-uses-in-None c = (counting-run _ _ _ _ _ _ c.loop-behind.invariant _ _ _ c.count_run-c.ensures).all

pub returns-in-None : goal.returns-in-None
returns-in-None c = counting-end _ _ _ _ _ _ (counting-run _ _ _ _ _ _ c.loop-behind.invariant _ _ _ c.count_run-c.ensures) (next-none _ _ _ _ c.next-m.ensures c.in-None.is)

pub mention-requires : goal.mention-requires
mention-requires c = counting-room _ _ _ _ _ _ (counting-run _ _ _ _ _ _ c.loop-behind.invariant _ _ _ c.count_run-c.ensures) _ _ _ _ (next-some _ _ _ _ _ _ _ _ c.next-m.ensures c.in-Some.is)

pub loop-behind-smaller : goal.loop-behind-smaller
loop-behind-smaller c = let x = (next-some _ _ _ _ _ _ _ _ c.next-m.ensures c.in-Some.is) in omega (arith, x.first, x.rises, x.last, c.count_run-c.ensures.onward)

pub loop-behind-preserved : goal.loop-behind-preserved
loop-behind-preserved c = counting-next _ _ _ _ _ _ (counting-run _ _ _ _ _ _ c.loop-behind.invariant _ _ _ c.count_run-c.ensures) _ _ _ _ _ (next-some _ _ _ _ _ _ _ _ c.next-m.ensures c.in-Some.is) c.mention.ensures
