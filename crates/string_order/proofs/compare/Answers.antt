use mathlib.Core.Path.{◌∙◌}
use Rattle.string_order.proofs.compare.Goals as goal

pub returns : goal.returns
returns c = c.compare_fours.ensures ∙ c.same_front.ensures.1
