use mathlib.Core.Path.{sym, ap, ◌∙◌}
use Rattle.std.specs.Prelude.{Ok}
use Rattle.locations.proofs.FindLaws.{verdict-ill, verdict-here, verdict-beyond}
use Rattle.location_reads.proofs.check.Goals as goal

pub returns-in-Err : goal.returns-in-Err
returns-in-Err c = verdict-ill _ _ _ _ (sym c.in-Err.is ∙ c.find.ensures)

pub returns-in-Ok-Some : goal.returns-in-Ok-Some
returns-in-Ok-Some c = verdict-here _ _ _ _ (sym (c.in-Ok-Some.is ∙ ap Ok c.in-Ok-Some.field-0-is) ∙ c.find.ensures)

pub returns-in-Ok-None : goal.returns-in-Ok-None
returns-in-Ok-None c = verdict-beyond _ _ _ (sym (c.in-Ok-None.is ∙ ap Ok c.in-Ok-None.field-0-is) ∙ c.find.ensures)
