use Rattle.local_times.proofs.WayLaws.{cand-low, cand-early, cand-late, cand-before, cand-in, cand-after}
use Rattle.local_times.proofs.candidate.Goals as goal

pub returns-then-l-wall : goal.returns-then-l-wall
returns-then-l-wall c = cand-low _ _ _ _ c.if-l-wall.true

pub returns-then-t-lt-FIRST : goal.returns-then-t-lt-FIRST
returns-then-t-lt-FIRST c = cand-early _ _ _ _ c.if-l-wall.false c.if-t-lt-FIRST.true

pub returns-then-t-gt-LAST : goal.returns-then-t-gt-LAST
returns-then-t-gt-LAST c = cand-late _ _ _ _ c.if-l-wall.false c.if-t-gt-LAST.true

pub returns-then-t-start : goal.returns-then-t-start
returns-then-t-start c = cand-before _ _ _ _ c.if-l-wall.false c.if-t-lt-FIRST.false c.if-t-gt-LAST.false c.if-t-start.true

pub returns-then-t-end : goal.returns-then-t-end
returns-then-t-end c = cand-in _ _ _ _ c.if-l-wall.false c.if-t-lt-FIRST.false c.if-t-gt-LAST.false c.if-t-start.false c.if-t-end.true

pub returns : goal.returns
returns c = cand-after _ _ _ _ c.if-l-wall.false c.if-t-lt-FIRST.false c.if-t-gt-LAST.false c.if-t-start.false c.if-t-end.false
