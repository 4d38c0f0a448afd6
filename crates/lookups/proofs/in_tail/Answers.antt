use mathlib.Core.Path.{ap, ◌∙◌}
use Rattle.zones.specs.Lookup.{named}
use Rattle.lookups.proofs.WalkLaws.{named-daylight, named-standard}
use Rattle.zones.specs.Lookup.{in_tail}
use Rattle.lookups.proofs.in_tail.Goals as goal

pub returns-then-x : goal.returns-then-x
unfolding in_tail
returns-then-x c = named-daylight c.args.n _ c.if-x.true ∙
    ap (named c.args.n) c.look_up-x.ensures

pub returns : goal.returns
unfolding in_tail
returns c = named-standard c.args.n _ c.if-x.false ∙
    ap (named c.args.n) c.look_up-x.ensures
