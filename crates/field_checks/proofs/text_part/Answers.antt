use Rattle.field_checks.proofs.PartLaws.{version-part}
use Rattle.field_checks.proofs.text_part.Goals as goal

pub returns-in-Ok : goal.returns-in-Ok
returns-in-Ok c = version-part _ _ _ _ _ c.in-Ok.is c.text_of.ensures
