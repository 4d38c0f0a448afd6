use mathlib.Core.Bool.{true}
use native.Mathlib.Omega.{arith}
use Prim.Native.Nat.{◌-◌}
use Rattle.interval_runs.proofs.StepLaws.{stepped, stepped-details, front-none, front-next, passed_start, stopped-done, stopped-cut, stopped-other, stopped-late, passed-next, stopped-on}
use Rattle.interval_runs.proofs.read_fives.Goals as goal

pub loop-i-init : goal.loop-i-init
loop-i-init c = (passed_start _ _ _ _ c.requires.0 c.requires.2, front-none _ _ _)

pub returns-then-left-eq0 : goal.returns-then-left-eq0
returns-then-left-eq0 c = stopped-done _ _ _ _ _ _ _ c.loop-i.invariant.0 c.if-left-eq0.true

pub overflow_sub-s : goal.overflow_sub-s
overflow_sub-s c = (c.loop-i.invariant.0 true).inside

pub returns-then-s-place-lt5 : goal.returns-then-s-place-lt5
returns-then-s-place-lt5 c = stopped-cut _ _ _ _ _ _ _ c.loop-i.invariant.0 c.if-s-place-lt5.true

pub step-m-requires : goal.step-m-requires
step-m-requires c = (omega (arith, (c.loop-i.invariant.0 true).inside), (c.loop-i.invariant.0 true).instant.high)

pub returns-then-m-eq0 : goal.returns-then-m-eq0
returns-then-m-eq0 c = stopped-other _ _ _ _ _ _ _ c.loop-i.invariant.0 c.if-s-place-lt5.false _ c.step-m.ensures c.if-m-eq0.true

pub returns-then-stop-m : goal.returns-then-stop-m
returns-then-stop-m c = stopped-late _ _ _ _ _ _ _ c.loop-i.invariant.0 c.if-s-place-lt5.false _ c.step-m.ensures c.if-m-eq0.false c.if-stop-m.true

pub overflow_sub-left : goal.overflow_sub-left
overflow_sub-left c = omega (arith, c.if-left-eq0.false)

pub overflow_add-place : goal.overflow_add-place
overflow_add-place c = omega (arith, c.if-s-place-lt5.false, (c.loop-i.invariant.0 true).inside)

pub loop-i-preserved : goal.loop-i-preserved
loop-i-preserved c = (passed-next _ _ _ _ _ _ _ c.loop-i.invariant.0 c.if-s-place-lt5.false _ c.step-m.ensures c.if-m-eq0.false (omega (arith, c.if-left-eq0.false)) c.if-stop-m.false c.requires.1, front-next _ _ _ _ c.loop-i.invariant.1 (stepped-details _ _ _ _ _ (stepped _ _ _ _ _ c.step-m.ensures c.if-m-eq0.false)))

pub read_more-requires : goal.read_more-requires
read_more-requires c = ((c.loop-i.invariant.0 true).inside, c.requires.1, (c.loop-i.invariant.0 true).instant, c.loop-i.invariant.1.two (omega (arith, c.loop-i-test.false)))

pub returns : goal.returns
returns c = stopped-on _ _ _ _ _ _ c.loop-i.invariant.0 c.read_more.ensures
