use native.Mathlib.Omega.{arith}
use Rattle.base.proofs.Parts.{Bytes}
use Rattle.interval_scans.proofs.StartFormLaws.{few-preferred, first-preferred, ticks-preferred}
use Rattle.interval_scans.proofs.start_preferred.Goals as goal
use Rattle.interval_scans.proofs.start_preferred.Goals.{After-shared_slice_known-1}

bytes : (c : goal.After-shared_slice_known-1) → Bytes c.args.s.now
bytes c i = omega (arith, c.shared_slice_known-1.given i)

pub returns-then-s-at-eq2 : goal.returns-then-s-at-eq2
returns-then-s-at-eq2 c = rw c.if-before.true (ticks-preferred _ _ _ _ (bytes (goal.at.returns-then-s-at-eq2 c).After-shared_slice_known-1) c.requires c.if-s-at-lt3.false c.if-s-at-eq2.true _ c.moment_size.ensures)

pub returns-then-s-at-lt128 : goal.returns-then-s-at-lt128
returns-then-s-at-lt128 c = rw c.if-before.true (first-preferred _ _ _ _ (bytes (goal.at.returns-then-s-at-lt128 c).After-shared_slice_known-1) c.requires c.if-s-at-lt3.false c.if-s-at-lt128.true c.if-s-at-eq2.false)

pub returns-then-s-at-lt128-2 : goal.returns-then-s-at-lt128-2
returns-then-s-at-lt128-2 c = rw c.if-before.true (few-preferred _ _ _ _ (bytes (goal.at.returns-then-s-at-lt128-2 c).After-shared_slice_known-1) c.requires c.if-s-at-lt3.false 1 (omega arith) c.if-s-at-lt128-2.true c.if-s-at-eq2.false)

pub returns-then-s-at-lt128-3 : goal.returns-then-s-at-lt128-3
returns-then-s-at-lt128-3 c = rw c.if-before.true (few-preferred _ _ _ _ (bytes (goal.at.returns-then-s-at-lt128-3 c).After-shared_slice_known-1) c.requires c.if-s-at-lt3.false 2 (omega arith) c.if-s-at-lt128-3.true c.if-s-at-eq2.false)
