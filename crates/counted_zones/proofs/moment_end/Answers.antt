use native.Mathlib.Omega.{arith}
use mathlib.Core.Path.{◌∙◌}
use Rattle.counted_zones.proofs.StepLaws.{moment-rises, moment-ticks, moment-count}
use Rattle.counted_zones.proofs.moment_end.Goals as goal

pub bounds-s-at : goal.bounds-s-at
bounds-s-at c = omega (arith, moment-rises c.args.s.now c.args.at, c.requires)

pub overflow_add-result : goal.overflow_add-result
overflow_add-result c = omega (arith, moment-ticks c.args.s.now c.args.at c.if-s-at-eq2.true, c.requires, c.well_formed)

pub returns-then-s-at-eq2 : goal.returns-then-s-at-eq2
returns-then-s-at-eq2 c = moment-ticks _ _ c.if-s-at-eq2.true

pub count_end-requires : goal.count_end-requires
count_end-requires c = omega (arith, moment-count c.args.s.now c.args.at c.if-s-at-eq2.false, c.requires)

pub returns : goal.returns
returns c = c.count_end.ensures ∙ moment-count _ _ c.if-s-at-eq2.false
