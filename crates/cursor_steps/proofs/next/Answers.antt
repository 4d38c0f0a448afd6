use native.Mathlib.Omega.{arith}
use Rattle.cursors.proofs.StepLaws.{next-listed, next-tailed, tail-asks, tail-points, no-untailed, no-refused}
use Rattle.cursor_steps.proofs.next.Goals as goal

pub at_interval-requires : goal.at_interval-requires
at_interval-requires c = (next-listed _ _ _ _ c.requires.0 c.if-left-gt0.true).list_at

pub returns-then-left-gt0 : goal.returns-then-left-gt0
returns-then-left-gt0 c = let e = (next-listed _ _ _ _ c.requires.0 c.if-left-gt0.true).start_is in
    (c.at_interval.ensures.0, omega (arith, c.at_interval.ensures.1.from, c.requires.1), omega (arith, c.at_interval.ensures.1.to))

pub in_tail-x-requires : goal.in_tail-x-requires
in_tail-x-requires c = tail-asks _ _ _ _ c.requires.0 (next-tailed _ _ _ _ c.requires.0 (omega (arith, c.if-left-gt0.false)) (omega (arith, c.requires.1, c.requires.2.high))) _ c.in-Tailed.is _ c.requires.2 c.requires.1

pub returns-in-Tailed : goal.returns-in-Tailed
returns-in-Tailed c = tail-points _ _ _ _ c.requires.0 (next-tailed _ _ _ _ c.requires.0 (omega (arith, c.if-left-gt0.false)) (omega (arith, c.requires.1, c.requires.2.high))) _
    c.in-Tailed.is _ c.requires.2 c.requires.1 _ _ _ c.in_tail-x.ensures

pub returns-in-Untailed : goal.returns-in-Untailed
returns-in-Untailed c = no-untailed _ _ _ _ c.requires.0 (next-tailed _ _ _ _ c.requires.0 (omega (arith, c.if-left-gt0.false)) (omega (arith, c.requires.1, c.requires.2.high))) c.in-Untailed.is

pub returns-in-Refused : goal.returns-in-Refused
returns-in-Refused c = no-refused _ _ _ _ c.requires.0 (next-tailed _ _ _ _ c.requires.0 (omega (arith, c.if-left-gt0.false)) (omega (arith, c.requires.1, c.requires.2.high))) _ c.in-Refused.is
