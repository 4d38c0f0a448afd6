use Rattle.same_tails.proofs.SameLaws.{from_start, from-never}
use Rattle.tail_matches.proofs.tails_from.Goals as goal

pub returns-then-alike : goal.returns-then-alike
returns-then-alike c = from_start _ _ _ _ _ c.alike.ensures c.if-alike.true _ c.larger.ensures

pub returns : goal.returns
returns c = from-never _ _ _ _ _ c.alike.ensures c.if-alike.false
