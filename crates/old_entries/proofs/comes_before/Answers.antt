use mathlib.Core.Path.{sym, ap, ◌∙◌}
use Rattle.old_dictionaries.specs.View.{is_less}
use Rattle.old_entries.proofs.comes_before.Goals as goal

pub returns-in-Less : goal.returns-in-Less
returns-in-Less c = sym (ap is_less (sym c.compare.ensures ∙ c.in-Less.is))

pub returns-in-Equal : goal.returns-in-Equal
returns-in-Equal c = sym (ap is_less (sym c.compare.ensures ∙ c.in-Equal.is))

pub returns-in-Greater : goal.returns-in-Greater
returns-in-Greater c = sym (ap is_less (sym c.compare.ensures ∙ c.in-Greater.is))
