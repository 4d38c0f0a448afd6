use Rattle.same_tails.specs.SameTails.{same_tail}
use Rattle.tail_matches.proofs.same_tail.Goals as goal

pub returns : goal.returns
unfolding same_tail
returns c = rw (c.both-3.ensures, c.both-2.ensures, c.both.ensures, c.same_rule-daylight.ensures, c.same_rule-standard.ensures)
