use native.Mathlib.Omega.{arith}
use Rattle.any_intervals.proofs.StartLaws.{mark-at, later-at}
use Rattle.any_intervals.proofs.start_at.Goals as goal

pub returns-then-s-at-eq0 : goal.returns-then-s-at-eq0
returns-then-s-at-eq0 c = mark-at _ _ _ c.requires c.if-s-at-lt2.false c.if-s-at-eq0.true

pub returns-then-m-ne0 : goal.returns-then-m-ne0
returns-then-m-ne0 c = later-at _ _ _ _ _ c.hours_start-m.ensures c.if-m-ne0.true (omega (arith, c.if-s-at-lt2.false, c.requires))
