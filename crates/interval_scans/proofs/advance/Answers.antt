use mathlib.Core.Path.{sym}
use Rattle.intervals.proofs.ScanLaws.{advance-closed, advance-next, advance-over}
use Rattle.interval_scans.proofs.advance.Goals as goal

pub returns-then-t-i : goal.returns-then-t-i
returns-then-t-i c = sym (advance-next _ _ _ c.if-end-ge-END.true c.if-t-i.true)

pub returns-else-t-i : goal.returns-else-t-i
returns-else-t-i c = sym (advance-over _ _ _ c.if-end-ge-END.true c.if-t-i.false)

pub returns-else-end-ge-END : goal.returns-else-end-ge-END
returns-else-end-ge-END c = sym (advance-closed _ _ _ c.if-end-ge-END.false)
