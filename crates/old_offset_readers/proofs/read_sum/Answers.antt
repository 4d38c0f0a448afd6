use native.Mathlib.Omega.{arith}
use Rattle.old_offsets.proofs.OldOffsetLaws.{offset-none, offset-below, offset-half, offset-between, offset-seconds, offset-milliseconds, offset-above}
use Rattle.old_offset_readers.proofs.read_sum.Goals as goal

pub returns-then-s-eq0 : goal.returns-then-s-eq0
returns-then-s-eq0 c = offset-none _ c.if-s-eq0.true

pub overflow_cast-b : goal.overflow_cast-b
overflow_cast-b c = omega (arith, c.shared_slice_known-2-1.given 0)

pub returns-then-b-lt16 : goal.returns-then-b-lt16
returns-then-b-lt16 c = offset-below c.args.s.now (omega arith) (omega arith)

pub returns-then-b-lt111 : goal.returns-then-b-lt111
returns-then-b-lt111 c = offset-half c.args.s.now _ (omega arith) (omega arith) (omega arith) c.offset_of.ensures

pub returns-then-b-lt130 : goal.returns-then-b-lt130
returns-then-b-lt130 c = offset-between c.args.s.now (omega arith) (omega arith) (omega arith)

pub returns-then-b-lt134 : goal.returns-then-b-lt134
returns-then-b-lt134 c = offset-seconds c.args.s.now _ (omega arith) (omega arith) (omega arith) c.by_seconds.ensures

pub returns-then-b-eq253 : goal.returns-then-b-eq253
returns-then-b-eq253 c = offset-milliseconds c.args.s.now _ (omega arith) (omega arith) c.by_milliseconds.ensures

pub returns : goal.returns
returns c = offset-above c.args.s.now (omega arith) (omega arith) c.if-b-eq253.false
