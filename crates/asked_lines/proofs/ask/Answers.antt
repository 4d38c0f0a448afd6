use mathlib.Core.Path.{◌∙◌}
use mir.Facts.{to_z-of_z}
use Rattle.asked_lines.specs.Asked.{asked_by}
use Rattle.asked_lines.proofs.ask.Goals as goal

pub returns-in-Plain : goal.returns-in-Plain
unfolding asked_by
returns-in-Plain c = c.ask_plain.ensures ∙ rw (to_z-of_z c.ranges.t, c.in-Plain.is)

pub returns-in-Part : goal.returns-in-Part
unfolding asked_by
returns-in-Part c = c.ask.ensures ∙ rw (to_z-of_z c.ranges.t, c.in-Part.is)

pub returns-in-All : goal.returns-in-All
unfolding asked_by
returns-in-All c = c.ask-in-All.ensures ∙ rw (to_z-of_z c.ranges.t, c.in-All.is)
