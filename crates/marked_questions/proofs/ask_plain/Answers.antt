use mir.Facts.{to_z-of_z}
use Rattle.marked_questions.proofs.ask_plain.Goals as goal

pub returns : goal.returns
returns c = rw (to_z-of_z c.ranges.ticks) at c.ask.ensures
