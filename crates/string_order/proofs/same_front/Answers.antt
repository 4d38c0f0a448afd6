use mathlib.Core.Path.{◌∙◌}
use Rattle.string_order.proofs.same_front.Goals as goal

pub returns : goal.returns
returns c = (c.same_blocks.ensures.0, c.same_blocks.ensures.1 ∙ c.same_blocks-i.ensures.1)
