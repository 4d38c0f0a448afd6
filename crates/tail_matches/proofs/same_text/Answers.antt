use mathlib.Core.List.{[]}
use mathlib.Core.Path.{ap, ◌∙◌}
use lib.ListN.{get_or}
use Rattle.base.specs.Equal.{equal}
use Rattle.pool.specs.Pool.{strings_of}
use Rattle.tail_matches.proofs.same_text.Goals as goal

pub returns : goal.returns
returns c = c.has_id.ensures ∙ ap (equal (get_or (strings_of _) _ [])) c.text_by.ensures
