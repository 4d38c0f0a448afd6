use Prim.Native.Nat.{◌-◌}
use native.Mathlib.Omega.{arith}
use mathlib.Core.Path.{refl, ◌∙◌}
use Rattle.check_steps.proofs.StepLaws.{walking_start, walking-done, walking-next, walking-less}
use Rattle.check_steps.proofs.FlagLaws.{so_far, flags-behind, flags-next}
use Rattle.checks.proofs.walk_with.Goals as goal

pub loop-x-init : goal.loop-x-init
loop-x-init c = (walking_start _ _ _ c.requires, so_far _ _ _, refl, refl, refl)

pub step-t-requires : goal.step-t-requires
step-t-requires c = (c.loop-x.invariant.0.holds.inside, c.loop-x.invariant.0.holds.indexed, c.loop-x.invariant.0.holds.stands.ids.sorted, c.loop-x.invariant.0.holds.place, omega (arith, c.requires.room, c.loop-x.invariant.3), omega (arith, c.requires.wide, c.loop-x.invariant.3, c.loop-x.invariant.4))

pub shape_of-flags-in-Done : goal.shape_of-flags-in-Done
shape_of-flags-in-Done c = c.flags-1.given ∙ c.loop-x.invariant.2

pub shape_of-index-in-Done : goal.shape_of-index-in-Done
shape_of-index-in-Done c = c.index-1.given ∙ c.loop-x.invariant.3

pub shape_of-order-in-Done : goal.shape_of-order-in-Done
shape_of-order-in-Done c = c.order-1.given ∙ c.loop-x.invariant.4

pub returns-in-Done : goal.returns-in-Done
returns-in-Done c = (
  walking-done _ _ _ _ _ _ _ c.loop-x.invariant.0 c.step-t.ensures.0 _ c.in-Done.is,
  flags-behind _ _ _ _ _ c.loop-x.invariant.1 c.step-t.ensures.1 _ c.in-Done.is,
)

pub loop-x-smaller : goal.loop-x-smaller
loop-x-smaller c = walking-less _ _ _ _ _ _ _ c.loop-x.invariant.0 c.step-t.ensures.0 _ c.in-Next.is

pub loop-x-preserved : goal.loop-x-preserved
loop-x-preserved c = (
  walking-next _ _ _ _ _ _ _ c.loop-x.invariant.0 c.step-t.ensures.0 _ c.in-Next.is,
  flags-next _ _ _ _ _ c.loop-x.invariant.1 c.step-t.ensures.1 _ c.in-Next.is,
  c.flags-1.given ∙ c.loop-x.invariant.2,
  c.index-1.given ∙ c.loop-x.invariant.3,
  c.order-1.given ∙ c.loop-x.invariant.4,
)
