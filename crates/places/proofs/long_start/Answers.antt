use Rattle.places.proofs.LongLaws.{ticks-are, size-nine}
use Rattle.places.proofs.long_start.Goals as goal

pub returns-then-n-eq3 : goal.returns-then-n-eq3
returns-then-n-eq3 c = rw c.if-n-eq3.true c.three_bytes.ensures

pub returns-then-n-eq4 : goal.returns-then-n-eq4
returns-then-n-eq4 c = rw c.if-n-eq4.true c.four_bytes.ensures

pub returns : goal.returns
returns c = ticks-are c.args.s.now _ _ _ _ (size-nine _ _ _ c.requires.2 c.requires.3 c.if-n-eq3.false c.if-n-eq4.false) c.ticks_after.ensures
