use Rattle.same_tails.specs.SameTails.{same_date}
use Rattle.tail_matches.proofs.same_date.Goals as goal

pub returns : goal.returns
unfolding same_date
returns c = rw (c.both-5.ensures, c.both-4.ensures, c.both-3.ensures, c.both-2.ensures, c.both.ensures, c.same_test-last.ensures, c.same_test-plus.ensures, c.same_test-after.ensures)
