use mir.Facts.{to_z-of_z}
use Rattle.trace_records.proofs.ShownLaws.{less-no, more_no, same-yes}
use Rattle.trace_records.proofs.same.Goals as goal

pub returns-then-a-b : goal.returns-then-a-b
returns-then-a-b c = less-no _ _ (rw (to_z-of_z c.ranges.a, to_z-of_z c.ranges.b) at c.if-a-b.true)

pub returns-then-b-a : goal.returns-then-b-a
returns-then-b-a c = more_no _ _ (rw (to_z-of_z c.ranges.a, to_z-of_z c.ranges.b) at c.if-a-b.false) (rw (to_z-of_z c.ranges.a, to_z-of_z c.ranges.b) at c.if-b-a.true)

pub returns : goal.returns
returns c = same-yes _ _ (rw (to_z-of_z c.ranges.a, to_z-of_z c.ranges.b) at c.if-a-b.false) (rw (to_z-of_z c.ranges.a, to_z-of_z c.ranges.b) at c.if-b-a.false)
