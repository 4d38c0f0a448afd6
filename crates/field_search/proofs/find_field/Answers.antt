use mathlib.Core.Path.{sym, ◌∙◌}
use Rattle.frames.proofs.AtLaws.{version-inside, no-field}
use Rattle.field_search.proofs.SearchLaws.{front-nowhere-end, front-nowhere-cut, front-nowhere-refused, front-on}
use Rattle.field_search.proofs.find_field.Goals as goal

pub seek-requires : goal.seek-requires
seek-requires c = version-inside 255 _ (sym c.in-Version.is ∙ c.read_frame.ensures)

pub returns-in-Version : goal.returns-in-Version
returns-in-Version c = front-on _ _ (sym c.in-Version.is ∙ c.read_frame.ensures) _ c.seek.ensures

pub returns-in-End : goal.returns-in-End
returns-in-End c = front-nowhere-end _ _ (sym c.in-End.is ∙ c.read_frame.ensures)

pub returns-in-Cut : goal.returns-in-Cut
returns-in-Cut c = front-nowhere-cut _ _ (sym c.in-Cut.is ∙ c.read_frame.ensures)

pub returns-in-Refused : goal.returns-in-Refused
returns-in-Refused c = front-nowhere-refused _ _ _ (sym c.in-Refused.is ∙ c.read_frame.ensures)

pub returns-in-Whole : goal.returns-in-Whole
returns-in-Whole c = no-field 255 _ _ _ _ (sym c.in-Whole.is ∙ c.read_frame.ensures)
