use Rattle.same_tails.specs.SameTails.{alike}
use Rattle.tail_matches.proofs.alike.Goals as goal

pub returns : goal.returns
unfolding alike
returns c = rw (c.both-2.ensures, c.both.ensures, c.same_text-daylight.ensures, c.same_text-standard.ensures, c.same_tail-tail.ensures)
