use Rattle.transitions.proofs.LaterLaws.{later-short, later-other, later-early, later-is, later-not}
use Rattle.transition_readers.proofs.ticks_after.Goals as goal

pub returns-then-s-lt9 : goal.returns-then-s-lt9
returns-then-s-lt9 c = later-short _ _ c.if-s-lt9.true

pub returns-then-s-ne2 : goal.returns-then-s-ne2
returns-then-s-ne2 c = later-other _ _ c.if-s-ne2.true

pub returns-then-previous-lt-FIRST : goal.returns-then-previous-lt-FIRST
returns-then-previous-lt-FIRST c = later-early _ _ c.if-previous-lt-FIRST.true

pub returns-then-previous-t : goal.returns-then-previous-t
returns-then-previous-t c = later-is _ _ _ _ c.if-s-lt9.false c.if-s-ne2.false
    c.fixed_from-raw.ensures c.from_raw-t.ensures c.if-previous-lt-FIRST.false c.if-previous-t.true

pub returns : goal.returns
returns c = later-not _ _ _ _ c.if-s-lt9.false c.if-s-ne2.false
    c.fixed_from-raw.ensures c.from_raw-t.ensures c.if-previous-t.false
