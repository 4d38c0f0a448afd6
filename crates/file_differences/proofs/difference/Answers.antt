use mir.Facts.{to_z-of_z}
use Rattle.signed.proofs.IntegerLaws.{instant-finite}
use Rattle.differences.proofs.GiveLaws.{gives-first, gives-last, gives-between}
use Rattle.file_differences.proofs.difference.Goals as goal

pub returns-then-a-eq0 : goal.returns-then-a-eq0
returns-then-a-eq0 c = gives-first _ _ _ _ _ _ _ (rw (to_z-of_z c.ranges.first) at c.instant-a.ensures) c.if-a-eq0.true

pub returns-then-b-eq0 : goal.returns-then-b-eq0
returns-then-b-eq0 c = gives-last _ _ _ _ _ _ _ (rw (to_z-of_z c.ranges.first) at c.instant-a.ensures) c.if-a-eq0.false _ (rw (to_z-of_z c.ranges.last) at c.instant-b.ensures) c.if-b-eq0.true

pub between-requires : goal.between-requires
between-requires c = (instant-finite _ _ (rw (to_z-of_z c.ranges.first) at c.instant-a.ensures) c.if-a-eq0.false, instant-finite _ _ (rw (to_z-of_z c.ranges.last) at c.instant-b.ensures) c.if-b-eq0.false)

pub returns : goal.returns
returns c = gives-between _ _ _ _ _ _ _ (rw (to_z-of_z c.ranges.first) at c.instant-a.ensures) c.if-a-eq0.false _ (rw (to_z-of_z c.ranges.last) at c.instant-b.ensures) c.if-b-eq0.false _ _ c.between.ensures
