use Rattle.local_times.specs.View.{with_last}
use Rattle.local_lookups.proofs.with_last.Goals as goal

pub returns : goal.returns
unfolding with_last
returns c = rw (c.counted.ensures, c.candidate-t.ensures)
