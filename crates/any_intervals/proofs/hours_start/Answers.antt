use Rattle.transitions.proofs.LaterLaws.{not-later}
use Rattle.any_intervals.proofs.StartLaws.{hours-start}
use Rattle.any_intervals.proofs.hours_start.Goals as goal

pub returns-then-prev-lt-FIRST : goal.returns-then-prev-lt-FIRST
returns-then-prev-lt-FIRST c = not-later _ _ _

pub returns-then-prev-gt-LAST : goal.returns-then-prev-gt-LAST
returns-then-prev-gt-LAST c = not-later _ _ _

pub returns-then-v-eq0 : goal.returns-then-v-eq0
returns-then-v-eq0 c = not-later _ _ _

pub returns-then-m-gt-LAST : goal.returns-then-m-gt-LAST
returns-then-m-gt-LAST c = not-later _ _ _

pub returns : goal.returns
returns c = hours-start _ _ _ _ c.requires c.hours_at-v.ensures.0 c.if-v-eq0.false c.hours_at-v.ensures.1 c.if-prev-lt-FIRST.false c.if-prev-gt-LAST.false c.if-m-gt-LAST.false
