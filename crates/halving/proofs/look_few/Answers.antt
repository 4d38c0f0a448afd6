use borrow.Author.Rules.{rules}
use mir.Facts.{to_z-of_z}
use Rattle.halving.proofs.look_few.Goals as goal

pub look_due-b1-requires : goal.look_due-b1-requires
look_due-b1-requires c = (rw (to_z-of_z c.ranges.instant) c.requires.0, (c.requires.1, (search rules, search rules)))

pub returns : goal.returns
returns c = (
  rw (to_z-of_z c.ranges.instant) at c.look_due.ensures.0,
  c.look_due.ensures.1.to,
)
