use native.Mathlib.Omega.{arith}
use Rattle.base.proofs.Parts.{Bytes}
use Rattle.next_intervals.proofs.NextLaws.{next-none, next-step}
use Rattle.next_intervals.proofs.short_next.Goals as goal
use Rattle.next_intervals.proofs.short_next.Goals.{After-shared_slice_known-1}

bytes : (c : goal.After-shared_slice_known-1) → Bytes c.args.s.now
bytes c i = omega (arith, c.shared_slice_known-1.given i)

pub returns-then-s-at-lt5 : goal.returns-then-s-at-lt5
returns-then-s-at-lt5 c = next-none _ _ _ _

pub returns-then-prev-lt-FIRST : goal.returns-then-prev-lt-FIRST
returns-then-prev-lt-FIRST c = next-none _ _ _ _

pub returns-then-prev-gt-LAST : goal.returns-then-prev-gt-LAST
returns-then-prev-gt-LAST c = next-none _ _ _ _

pub returns-then-m-gt-LAST : goal.returns-then-m-gt-LAST
returns-then-m-gt-LAST c = next-none _ _ _ _

pub returns : goal.returns
returns c = next-step _ _ _ _ _ (bytes (goal.at.returns c).After-shared_slice_known-1) (record { low = c.if-prev-lt-FIRST.false; high = c.if-prev-gt-LAST.false })
    (omega (arith, c.if-s-at-lt5.false, c.requires)) c.step-m.ensures c.if-m-gt-LAST.false
