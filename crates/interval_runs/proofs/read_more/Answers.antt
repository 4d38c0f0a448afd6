use mathlib.Core.Bool.{true}
use Rattle.interval_runs.proofs.StepLaws.{stopped-whole}
use native.Mathlib.Omega.{arith}
use Rattle.interval_runs.proofs.StepLaws.{more-start, more_room, more-done, more-other, more-late, more-next}
use Rattle.interval_runs.proofs.read_more.Goals as goal
use Rattle.interval_runs.proofs.read_more.Goals.{else-loop-left-test, then-loop-left-test+then-m-eq0, then-loop-left-test+else-m-eq0+then-stop-m}

pub overflow_sub-s : goal.overflow_sub-s
overflow_sub-s c = c.requires.0

pub overflow_sub-rest : goal.overflow_sub-rest
overflow_sub-rest c = c.fitting-n.ensures.most

pub loop-left-init : goal.loop-left-init
loop-left-init c = more-start _ _ _ _ _ _ _ c.requires.0 c.requires.2 c.requires.3 c.fitting-n.ensures

pub next_step-m-requires : goal.next_step-m-requires
next_step-m-requires c = (omega (arith, more_room _ _ _ _ _ _ _ _ c.loop-left.invariant c.loop-left-test.true), (c.loop-left.invariant.passed true).instant.high, c.loop-left.invariant.two)

pub overflow_add-place : goal.overflow_add-place
overflow_add-place c = omega (arith, more_room _ _ _ _ _ _ _ _ c.loop-left.invariant c.loop-left-test.true)

pub loop-left-preserved : goal.loop-left-preserved
loop-left-preserved c = more-next _ _ _ _ _ _ _ _ c.loop-left.invariant c.loop-left-test.true _ c.next_step-m.ensures c.if-m-eq0.false c.if-stop-m.false c.requires.1

pub overflow_add-result : goal.overflow_add-result
overflow_add-result c = omega (arith, (c.loop-left.invariant.passed true).fewer, c.fitting-n.ensures.most, c.struct_known-1.given.0)

pub returns : goal.returns
returns c = stopped-whole _ _ _ _ _ _ _ _ c.fitting-n.ensures.most
    (elim c.loop-left-test.branch [
      | else-loop-left-test w ↦ more-done _ _ _ _ _ _ _ _ c.loop-left.invariant (omega (arith, w.loop-left-test.false))
      | then-loop-left-test+then-m-eq0 w ↦ more-other _ _ _ _ _ _ _ _ c.loop-left.invariant w.loop-left-test.true _ w.next_step-m.ensures w.if-m-eq0.true
      | then-loop-left-test+else-m-eq0+then-stop-m w ↦ more-late _ _ _ _ _ _ _ _ c.loop-left.invariant w.loop-left-test.true _ w.next_step-m.ensures w.if-m-eq0.false w.if-stop-m.true
    ])
