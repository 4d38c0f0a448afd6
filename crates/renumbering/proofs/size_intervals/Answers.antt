use mathlib.Core.Path.{ap}
use Prim.Native.Nat.{◌-◌}
use native.Mathlib.Omega.{arith}
use Rattle.places.specs.Placed.{of_read}
use Rattle.places.proofs.PlaceLaws.{stands-is}
use Rattle.mention_runs.proofs.RunLaws.{start-here}
use Rattle.renumbering.proofs.RenumberLaws.{not_none, measured-none, measured-next, measured-most}
use Rattle.renumbering.proofs.size_intervals.Goals as goal

pub loop-n-init : goal.loop-n-init
loop-n-init c = measured-none _ _ _ _ c.requires.0

pub next_start-next-requires : goal.next_start-next-requires
next_start-next-requires c = c.loop-n.invariant.going.within

pub returns-then-p-eq0 : goal.returns-then-p-eq0
returns-then-p-eq0 c = c.loop-n.invariant

pub count_at-requires : goal.count_at-requires
count_at-requires c = (c.next_start-next.ensures.ahead c.if-p-eq0.false 1 (λ z. omega arith)).within

pub returns-in-Err : goal.returns-in-Err
returns-in-Err c = c.loop-n.invariant

pub overflow_sub-size : goal.overflow_sub-size
overflow_sub-size c = (start-here _ _ c.loop-n.invariant.going.within _ _ (not_none c.loop-n-test.true) _ c.next_start-next.ensures c.if-p-eq0.false _ _ (stands-is c.count_at.ensures (ap of_read c.in-Ok.is))).first

pub overflow_add-size : goal.overflow_add-size
overflow_add-size c = omega (arith, measured-most _ _ _ _ _ _ _ c.loop-n.invariant _ _ c.count_size.ensures _ _ _ _ (start-here _ _ c.loop-n.invariant.going.within _ _ (not_none c.loop-n-test.true) _ c.next_start-next.ensures c.if-p-eq0.false _ _ (stands-is c.count_at.ensures (ap of_read c.in-Ok.is))) c.renumber-k.ensures, c.requires.1)

pub overflow_add-size-in-Ok : goal.overflow_add-size-in-Ok
overflow_add-size-in-Ok c = omega (arith, measured-most _ _ _ _ _ _ _ c.loop-n.invariant _ _ c.count_size.ensures _ _ _ _ (start-here _ _ c.loop-n.invariant.going.within _ _ (not_none c.loop-n-test.true) _ c.next_start-next.ensures c.if-p-eq0.false _ _ (stands-is c.count_at.ensures (ap of_read c.in-Ok.is))) c.renumber-k.ensures, c.requires.1)

pub loop-n-preserved : goal.loop-n-preserved
loop-n-preserved c = measured-next _ _ _ _ _ _ _ c.loop-n.invariant _ _ c.count_size.ensures _ _ _ _ (start-here _ _ c.loop-n.invariant.going.within _ _ (not_none c.loop-n-test.true) _ c.next_start-next.ensures c.if-p-eq0.false _ _ (stands-is c.count_at.ensures (ap of_read c.in-Ok.is))) c.renumber-k.ensures

pub returns : goal.returns
returns c = c.loop-n.invariant
