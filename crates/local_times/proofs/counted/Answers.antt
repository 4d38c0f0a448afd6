use Rattle.local_times.proofs.CountLaws.{counted_none, counted-first, counted-more}
use Rattle.local_times.proofs.counted.Goals as goal

pub returns-then-t-eq0 : goal.returns-then-t-eq0
returns-then-t-eq0 c = counted_none _ _ c.if-t-eq0.true

pub returns-then-a-eq0 : goal.returns-then-a-eq0
returns-then-a-eq0 c = counted-first _ _ c.if-t-eq0.false c.if-a-eq0.true

pub returns : goal.returns
returns c = counted-more _ _ c.if-t-eq0.false c.if-a-eq0.false
