use Rattle.transitions.proofs.MomentLaws.{count-minutes, count-hours}
use Rattle.transition_writers.proofs.count_to.Goals as goal

pub returns-then-v-eq0 : goal.returns-then-v-eq0
returns-then-v-eq0 c = count-minutes c.args.previous c.args.t _ _ c.hours_to-v.ensures c.if-v-eq0.true c.units_to.ensures

pub returns : goal.returns
returns c = count-hours c.args.previous c.args.t _ c.hours_to-v.ensures c.if-v-eq0.false
