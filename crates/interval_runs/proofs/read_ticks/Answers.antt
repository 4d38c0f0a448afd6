use native.Mathlib.Omega.{arith}
use Rattle.interval_runs.proofs.TicksLaws.{ticking-start, ticking-room, ticking-next, passed-whole}
use Rattle.interval_runs.proofs.read_ticks.Goals as goal

pub overflow_sub-s : goal.overflow_sub-s
overflow_sub-s c = c.requires.0

pub overflow_sub-rest : goal.overflow_sub-rest
overflow_sub-rest c = c.fitting-n.ensures.most

pub overflow_sub-old : goal.overflow_sub-old
overflow_sub-old c = c.requires.3

pub loop-left-init : goal.loop-left-init
loop-left-init c = ticking-start _ _ _ _ _ _ _ c.requires.0 c.requires.2 c.requires.3 c.requires.4 c.fitting-n.ensures

pub ticks_step-m-requires : goal.ticks_step-m-requires
ticks_step-m-requires c = (ticking-room _ _ _ _ _ _ _ _ _ c.loop-left.invariant c.loop-left-test.true, c.loop-left.invariant.inside, c.loop-left.invariant.passed.instant, c.loop-left.invariant.judged)

pub overflow_sub-old-in-loop-left : goal.overflow_sub-old-in-loop-left
overflow_sub-old-in-loop-left c = c.loop-left.invariant.far

pub overflow_add-place : goal.overflow_add-place
overflow_add-place c = omega (arith, ticking-room _ _ _ _ _ _ _ _ _ c.loop-left.invariant c.loop-left-test.true)

pub loop-left-preserved : goal.loop-left-preserved
loop-left-preserved c = ticking-next _ _ _ _ _ _ _ _ _ c.loop-left.invariant c.loop-left-test.true _ c.ticks_step-m.ensures c.if-m-eq0.false c.if-stop-m.false c.requires.1

pub overflow_add-result : goal.overflow_add-result
overflow_add-result c = omega (arith, c.loop-left.invariant.passed.fewer, c.fitting-n.ensures.most, c.struct_known-1.given.0)

pub returns : goal.returns
returns c = passed-whole _ _ _ _ _ _ _ _ _ c.fitting-n.ensures.most c.loop-left.invariant.passed
