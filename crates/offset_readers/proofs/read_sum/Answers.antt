use native.Mathlib.Omega.{arith}
use Rattle.offsets.proofs.OffsetLaws.{offset-none, offset-half, offset-level, offset-prefix, minutes, seconds, milliseconds}
use Rattle.offset_readers.proofs.read_sum.Goals as goal

pub returns-then-s-eq0 : goal.returns-then-s-eq0
returns-then-s-eq0 c = offset-none _ c.if-s-eq0.true

pub overflow_cast-b : goal.overflow_cast-b
overflow_cast-b c = omega (arith, c.shared_slice_known-2-1.given 0)

pub returns-then-b-lt128 : goal.returns-then-b-lt128
returns-then-b-lt128 c = offset-half c.args.s.now _ (omega arith) (omega arith) c.offset_of.ensures

pub returns-then-b-lt160 : goal.returns-then-b-lt160
returns-then-b-lt160 c = offset-level minutes c.args.s.now _ (omega arith) (omega arith) (omega arith) c.in_units.ensures

pub returns-then-b-lt192 : goal.returns-then-b-lt192
returns-then-b-lt192 c = offset-level seconds c.args.s.now _ (omega arith) (omega arith) (omega arith) c.in_units-then-b-lt192.ensures

pub returns-then-b-lt224 : goal.returns-then-b-lt224
returns-then-b-lt224 c = offset-level milliseconds c.args.s.now _ (omega arith) (omega arith) (omega arith) c.in_units-then-b-lt224.ensures

pub returns : goal.returns
returns c = offset-prefix c.args.s.now (omega arith) (omega arith)
