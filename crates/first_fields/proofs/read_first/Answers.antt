use mathlib.Core.Path.{sym, ◌∙◌}
use Rattle.frames.proofs.AtLaws.{version-inside, no-field}
use Rattle.locate.proofs.WalkingLaws.{first-end, first-cut, first-refused}
use Rattle.first_fields.proofs.read_first.Goals as goal

pub read_pool-requires : goal.read_pool-requires
read_pool-requires c = (version-inside 1 _ (sym c.in-Version.is ∙ c.read_frame.ensures), sym c.read_frame.ensures ∙ c.in-Version.is)

pub returns-in-End : goal.returns-in-End
returns-in-End c = first-end _ (sym c.in-End.is ∙ c.read_frame.ensures)

pub returns-in-Cut : goal.returns-in-Cut
returns-in-Cut c = first-cut _ (sym c.in-Cut.is ∙ c.read_frame.ensures)

pub returns-in-Refused : goal.returns-in-Refused
returns-in-Refused c = first-refused _ _ (sym c.in-Refused.is ∙ c.read_frame.ensures)

pub returns-in-Whole : goal.returns-in-Whole
returns-in-Whole c = no-field 1 _ _ _ _ (sym c.in-Whole.is ∙ c.read_frame.ensures)

pub returns-in-Version : goal.returns-in-Version
returns-in-Version c = c.read_pool.ensures
