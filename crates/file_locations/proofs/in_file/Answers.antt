use mathlib.Core.Path.{sym, ◌∙◌}
use Rattle.location_lookup.proofs.LookupLaws.{file-no-pool, file-no-field, file-field}
use Rattle.file_locations.proofs.in_file.Goals as goal

pub returns-in-None : goal.returns-in-None
returns-in-None c = file-no-pool _ _ _ (sym c.in-None.is ∙ c.find_field.ensures)

pub returns-in-None-find_field : goal.returns-in-None-find_field
returns-in-None-find_field c = file-no-field _ _ _ _ _ _ (sym c.in-Some.is ∙ c.find_field.ensures) _ c.id_of.ensures (sym c.in-None-find_field.is ∙ c.find_field-in-Some.ensures)

pub returns-in-Some-find_field : goal.returns-in-Some-find_field
returns-in-Some-find_field c = file-field _ _ _ _ _ _ (sym c.in-Some.is ∙ c.find_field.ensures) _ c.id_of.ensures _ _ _ _ (sym c.in-Some-find_field.is ∙ c.find_field-in-Some.ensures) c.in_field.ensures
