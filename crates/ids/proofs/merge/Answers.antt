use lib.ListN.{get_or}
use mathlib.Core.Path.{refl}
use Prim.Native.Nat.{◌+◌, ◌-◌, ◌≤◌}
use native.Mathlib.Omega.{arith}
use Rattle.ids.proofs.MergeLaws.{merging_start, place-most, ends as ends-inside, merging-next, merging-done}
use Rattle.ids.proofs.merge.Goals as goal
use Rattle.ids.proofs.merge.Goals.{In-loop-left}

pub loop-left-init : goal.loop-left-init
loop-left-init c = merging_start _ _ _ c.requires.1

few : (c : goal.In-loop-left) → c.loop-left.left ≤ 128
few c = omega (arith, c.loop-left.invariant.left, c.requires.1.few)

most : (c : goal.In-loop-left) → get_or c.loop-left.order (128 + (c.loop-left.left - 1)) 0 ≤ c.loop-left.to
most c = place-most _ _ _ _ _ _ c.loop-left.invariant c.requires.1.few c.requires.0 _ _ (omega arith) refl

ends : (c : goal.In-loop-left) → c.loop-left.to + c.loop-left.left ≤ c.args.m + c.args.b
ends c = ends-inside _ _ _ _ _ _ c.loop-left.invariant c.requires.1.few c.requires.0 (c.loop-left.left - 1) _ (omega arith) refl

pub overflow_add-from : goal.overflow_add-from
overflow_add-from c = omega (arith, few (c))

pub offset_bounds-order-j : goal.offset_bounds-order-j
offset_bounds-order-j c = omega (arith, few (c))

pub bounds-order-j : goal.bounds-order-j
bounds-order-j c = omega (arith, few (goal.at.bounds-order-j c).In-loop-left, c.loop-left.invariant.room, c.requires.0)

pub overflow_cast-from : goal.overflow_cast-from
overflow_cast-from c = omega (arith, few (goal.at.overflow_cast-from c).In-loop-left, most (goal.at.overflow_cast-from c).In-loop-left, ends (goal.at.overflow_cast-from c).In-loop-left)

pub shift-requires : goal.shift-requires
shift-requires c = (omega (arith, most (goal.at.shift-requires c).In-loop-left), omega (arith, ends (goal.at.shift-requires c).In-loop-left, c.loop-left.invariant.room, c.requires.0), omega (arith, ends (goal.at.shift-requires c).In-loop-left, c.requires.2))

pub overflow_add-order : goal.overflow_add-order
overflow_add-order c = omega (arith, few (goal.at.overflow_add-order c).In-loop-left, most (goal.at.overflow_add-order c).In-loop-left, ends (goal.at.overflow_add-order c).In-loop-left, c.requires.2)

pub offset_bounds-order-j-in-loop-left : goal.offset_bounds-order-j-in-loop-left
offset_bounds-order-j-in-loop-left c = omega (arith, few (goal.at.offset_bounds-order-j-in-loop-left c).In-loop-left)

pub bounds-order-j-in-loop-left : goal.bounds-order-j-in-loop-left
bounds-order-j-in-loop-left c = omega (arith, few (goal.at.bounds-order-j-in-loop-left c).In-loop-left, c.shift.ensures.room, c.loop-left.invariant.room, c.requires.0)

pub overflow_add-order-in-loop-left : goal.overflow_add-order-in-loop-left
overflow_add-order-in-loop-left c = omega (arith, few (goal.at.overflow_add-order-in-loop-left c).In-loop-left, most (goal.at.overflow_add-order-in-loop-left c).In-loop-left, ends (goal.at.overflow_add-order-in-loop-left c).In-loop-left, c.requires.2)

pub offset_bounds-order-from : goal.offset_bounds-order-from
offset_bounds-order-from c = omega (arith, few (goal.at.offset_bounds-order-from c).In-loop-left, most (goal.at.offset_bounds-order-from c).In-loop-left, ends (goal.at.offset_bounds-order-from c).In-loop-left, c.requires.2)

pub bounds-order-from : goal.bounds-order-from
bounds-order-from c = omega (arith, few (goal.at.bounds-order-from c).In-loop-left, most (goal.at.bounds-order-from c).In-loop-left, ends (goal.at.bounds-order-from c).In-loop-left, c.requires.2, c.shift.ensures.room, c.loop-left.invariant.room, c.requires.0)

pub loop-left-preserved : goal.loop-left-preserved
loop-left-preserved c = merging-next _ _ _ _ _ _ c.loop-left.invariant c.requires.1.few c.requires.0 _ _ (omega arith) refl _ c.shift.ensures (λ s l. c.requires.1.rising s _ (omega arith) (omega (arith, c.loop-left.invariant.left)))

pub bounds-order-256 : goal.bounds-order-256
bounds-order-256 c = omega (arith, c.loop-left.invariant.room, c.requires.0)

pub returns : goal.returns
returns c = merging-done _ _ _ _ _ _ c.loop-left.invariant c.requires.1.few c.requires.0 (omega arith)

pub overflow_add-from-in-loop-left : goal.overflow_add-from-in-loop-left
overflow_add-from-in-loop-left c = omega (arith, most (goal.at.overflow_add-from-in-loop-left c).In-loop-left, ends (goal.at.overflow_add-from-in-loop-left c).In-loop-left, c.requires.2)

pub overflow_add-to : goal.overflow_add-to
overflow_add-to c = omega (arith, ends (goal.at.overflow_add-to c).In-loop-left, c.requires.2)
