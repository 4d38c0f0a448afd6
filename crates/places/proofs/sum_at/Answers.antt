use native.Mathlib.Omega.{arith}
use Rattle.offsets.specs.Offset.{read_sum}
use Rattle.places.proofs.ShortLaws.{reads, refuses, no-sum, zero-sum, half-hours}
use Rattle.places.proofs.sum_at.Goals as goal

pub returns-then-s-at : goal.returns-then-s-at
returns-then-s-at c = refuses read_sum c.args.s.now c.args.at _ (no-sum c.args.s.now c.args.at c.if-s-at.true)

pub overflow_cast-b : goal.overflow_cast-b
overflow_cast-b c = omega (arith, c.shared_slice_known-2-1.given c.args.at)

pub returns-then-b-eq0 : goal.returns-then-b-eq0
returns-then-b-eq0 c = refuses read_sum c.args.s.now c.args.at _ (zero-sum c.args.s.now c.args.at c.if-s-at.false c.if-b-eq0.true)

pub returns-then-b-lt96 : goal.returns-then-b-lt96
returns-then-b-lt96 c = reads read_sum c.args.s.now c.args.at _ _ (half-hours c.args.s.now c.args.at c.if-s-at.false c.if-b-eq0.false c.if-b-lt96.true) (omega arith)
