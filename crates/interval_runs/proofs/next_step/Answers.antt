use Rattle.interval_runs.proofs.StepLaws.{step-none, step_is, step-refused, step_same}
use Rattle.interval_runs.proofs.next_step.Goals as goal

pub returns-then-v-eq0 : goal.returns-then-v-eq0
returns-then-v-eq0 c = step-none _ _ _ _ _ c.hours_at-v.ensures.0 c.if-v-eq0.true

pub returns-then-same_details : goal.returns-then-same_details
returns-then-same_details c = step_same _ _ _ _ _ c.hours_at-v.ensures.0 c.if-v-eq0.false c.requires.2 _ c.same_details.ensures c.if-same_details.true

pub returns-then-details_ok : goal.returns-then-details_ok
returns-then-details_ok c = step_is _ _ _ _ _ c.hours_at-v.ensures.0 c.if-v-eq0.false _ c.details_ok.ensures c.if-details_ok.true

pub returns : goal.returns
returns c = step-refused _ _ _ _ _ c.hours_at-v.ensures.0 c.if-v-eq0.false _ c.details_ok.ensures c.if-details_ok.false
