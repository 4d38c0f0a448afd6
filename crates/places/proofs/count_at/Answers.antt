use native.Mathlib.Omega.{arith}
use Rattle.counts.specs.Count.{read_count}
use Rattle.counts.proofs.CountLaws.{byte-count}
use Rattle.places.proofs.ShortLaws.{reads, refuses, no-count}
use Rattle.places.proofs.count_at.Goals as goal

pub returns-then-s-at : goal.returns-then-s-at
returns-then-s-at c = refuses read_count c.args.s.now c.args.at _ (no-count c.args.s.now c.args.at c.if-s-at.true)

pub overflow_cast-b : goal.overflow_cast-b
overflow_cast-b c = omega (arith, c.shared_slice_known-2-1.given c.args.at)

pub returns-then-b-lt128 : goal.returns-then-b-lt128
returns-then-b-lt128 c = reads read_count c.args.s.now c.args.at _ _ (byte-count c.args.s.now c.args.at c.if-s-at.false c.if-b-lt128.true) (omega arith)
