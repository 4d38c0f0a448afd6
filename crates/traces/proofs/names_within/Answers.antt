use mathlib.Core.Path.{refl, sym, ◌∙◌}
use native.Mathlib.Omega.{arith}
use Rattle.traces.proofs.TraceLaws.{judged, names-next, names-out, names-done}
use Rattle.traces.proofs.names_within.Goals as goal

pub loop-left-init : goal.loop-left-init
loop-left-init c = (c.requires, refl)

pub overflow_add-place : goal.overflow_add-place
overflow_add-place c = omega (arith, c.loop-left.invariant.0)

pub four_at-start-requires : goal.four_at-start-requires
four_at-start-requires c = omega (arith, c.loop-left.invariant.0)

pub overflow_add-place-in-loop-left : goal.overflow_add-place-in-loop-left
overflow_add-place-in-loop-left c = omega (arith, c.loop-left.invariant.0)

pub four_at-span-requires : goal.four_at-span-requires
four_at-span-requires c = omega (arith, c.loop-left.invariant.0)

pub overflow_add-place-then-within : goal.overflow_add-place-then-within
overflow_add-place-then-within c = omega (arith, c.loop-left.invariant.0)

pub loop-left-preserved : goal.loop-left-preserved
loop-left-preserved c = (
  omega (arith, c.loop-left.invariant.0),
  c.loop-left.invariant.1 ∙ names-next _ _ _ _ c.loop-left-test.true (judged _ _ _ _ _ _ _ c.if-within.true c.within.ensures c.four_at-start.ensures.0 c.four_at-span.ensures.0),
)

pub returns-else-within : goal.returns-else-within
returns-else-within c = names-out _ _ _ _ c.loop-left-test.true (judged _ _ _ _ _ _ _ c.if-within.false c.within.ensures c.four_at-start.ensures.0 c.four_at-span.ensures.0)
    ∙ sym c.loop-left.invariant.1

pub returns : goal.returns
returns c = names-done _ _ _ _ (omega arith) ∙ sym c.loop-left.invariant.1
