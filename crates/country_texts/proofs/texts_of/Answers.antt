use mathlib.Core.Path.{sym, ◌∙◌}
use Rattle.location_lookup.proofs.LookupLaws.{pair-nowhere, pair-here}
use Rattle.country_texts.proofs.texts_of.Goals as goal

pub returns-in-None : goal.returns-in-None
returns-in-None c = pair-nowhere _ _ _ _ _ (sym c.in-None.is ∙ c.find_field.ensures)

pub returns-in-Some : goal.returns-in-Some
returns-in-Some c = pair-here _ _ _ _ _ _ _ _ _ _ (sym c.in-Some.is ∙ c.find_field.ensures) c.text_in.ensures c.text_in-in-Some.ensures
