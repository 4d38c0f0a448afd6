use Rattle.local_times.specs.View.{advance}
use Rattle.local_lookups.proofs.advance.Goals as goal

pub returns : goal.returns
unfolding advance
returns c = rw (c.counted-tally.ensures, c.candidate-t.ensures)
