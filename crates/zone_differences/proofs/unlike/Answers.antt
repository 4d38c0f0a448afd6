use mathlib.Core.List.{[]}
use lib.ListN.{get_or}
use Rattle.base.specs.Equal.{equal}
use Rattle.pool.specs.Pool.{strings_of}
use mathlib.Core.Path.{sym, ap, ◌∙◌}
use mathlib.Core.Bool.{not}
use Rattle.zone_differences.proofs.CompareLaws.{by-wall, by-savings, by_name}
use Rattle.zone_differences.proofs.unlike.Goals as goal

pub returns-then-x-y : goal.returns-then-x-y
returns-then-x-y c = by-wall _ _ c.args.x c.args.y c.if-x-y.true

pub returns-then-x-y-2 : goal.returns-then-x-y-2
returns-then-x-y-2 c = by-savings _ _ c.args.x c.args.y c.if-x-y.false c.if-x-y-2.true

pub returns-then-has_id : goal.returns-then-has_id
returns-then-has_id c = ap not (sym c.if-has_id.true) ∙ by_name _ _ c.args.x c.args.y c.if-x-y.false c.if-x-y-2.false _ (c.has_id.ensures ∙ ap (equal (get_or (strings_of _) _ [])) c.text_by.ensures)

pub returns : goal.returns
returns c = ap not (sym c.if-has_id.false) ∙ by_name _ _ c.args.x c.args.y c.if-x-y.false c.if-x-y-2.false _ (c.has_id.ensures ∙ ap (equal (get_or (strings_of _) _ [])) c.text_by.ensures)
