use mir.Facts.{to_z-of_z}
use Rattle.moment_replies.proofs.previous_of.Goals as goal

pub returns-then-finite : goal.returns-then-finite
returns-then-finite c = rw c.if-finite.true (rw (to_z-of_z c.ranges.previous) at c.instant.ensures)

pub returns : goal.returns
returns c = rw c.if-finite.false
