use Rattle.same_tails.specs.SameTails.{same_rule}
use Rattle.tail_matches.proofs.same_rule.Goals as goal

pub returns : goal.returns
unfolding same_rule
returns c = rw (c.both-2.ensures, c.both.ensures, c.same_date.ensures)
