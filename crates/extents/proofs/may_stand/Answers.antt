use Rattle.extents.proofs.FieldLaws.{again-zone, again-other, another, as_first}
use Rattle.extents.proofs.may_stand.Goals as goal

pub returns-then-i-eq1 : goal.returns-then-i-eq1
returns-then-i-eq1 c = rw c.if-seen.true (again-zone _ _ c.if-i-prev.true c.if-i-eq1.true)

pub returns-then-i-prev : goal.returns-then-i-prev
returns-then-i-prev c = rw c.if-seen.true (again-other _ _ c.if-i-prev.true c.if-i-eq1.false)

pub returns-then-seen : goal.returns-then-seen
returns-then-seen c = rw c.if-seen.true (another _ _ c.if-i-prev.false)

pub returns : goal.returns
returns c = rw c.if-seen.false (as_first _ _)
