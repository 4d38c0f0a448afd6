use Prim.Native.Nat.{◌+◌}
use native.Mathlib.Omega.{arith}
use Rattle.interval_runs.proofs.StepLaws.{hours-one, hours-padded, hours-longer, hours-two}
use Rattle.interval_runs.proofs.hours_at.Goals as goal

pub overflow_cast-b : goal.overflow_cast-b
overflow_cast-b c = omega (arith, c.shared_slice_known-1.given c.args.at)

pub returns-then-b-lt128 : goal.returns-then-b-lt128
returns-then-b-lt128 c = (hours-one _ _ c.if-b-lt128.true, omega arith)

pub overflow_cast-d : goal.overflow_cast-d
overflow_cast-d c = omega (arith, c.shared_slice_known-2-1.given (c.args.at + 1))

pub returns-then-d-eq0 : goal.returns-then-d-eq0
returns-then-d-eq0 c = (hours-padded _ _ c.if-b-lt128.false c.if-d-eq0.true, omega arith)

pub returns-then-d-gt127 : goal.returns-then-d-gt127
returns-then-d-gt127 c = (hours-longer _ _ c.if-b-lt128.false c.if-d-gt127.true, omega arith)

pub returns : goal.returns
returns c = (hours-two _ _ c.if-b-lt128.false c.if-d-eq0.false c.if-d-gt127.false, omega arith)
