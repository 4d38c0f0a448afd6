use native.Mathlib.Omega.{arith}
use Rattle.old_counts.proofs.OldCountLaws.{count_none, count-one, count-level, count-smallest, count-largest, two-bytes, three-bytes, four_bytes}
use Rattle.old_count_readers.proofs.read_count.Goals as goal

pub returns-then-s-eq0 : goal.returns-then-s-eq0
returns-then-s-eq0 c = count_none _ c.if-s-eq0.true

pub overflow_cast-b : goal.overflow_cast-b
overflow_cast-b c = omega (arith, c.shared_slice_known-2-1.given 0)

pub returns-then-b-lt128 : goal.returns-then-b-lt128
returns-then-b-lt128 c = count-one c.args.s.now (omega arith) (omega arith)

pub returns-then-b-lt192 : goal.returns-then-b-lt192
returns-then-b-lt192 c = count-level two-bytes c.args.s.now _ (omega arith) (omega arith) (omega arith) c.value_from.ensures

pub returns-then-b-lt224 : goal.returns-then-b-lt224
returns-then-b-lt224 c = count-level three-bytes c.args.s.now _ (omega arith) (omega arith) (omega arith) c.value_from-then-b-lt224.ensures

pub returns-then-b-lt240 : goal.returns-then-b-lt240
returns-then-b-lt240 c = count-level four_bytes c.args.s.now _ (omega arith) (omega arith) (omega arith) c.value_from-then-b-lt240.ensures

pub returns-then-b-lt255 : goal.returns-then-b-lt255
returns-then-b-lt255 c = count-smallest c.args.s.now (omega arith) (omega arith) (omega arith)

pub returns : goal.returns
returns c = count-largest c.args.s.now _ (omega arith) (omega arith) c.largest.ensures
