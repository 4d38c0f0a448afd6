use native.Mathlib.Omega.{arith}
use Rattle.transitions.proofs.MomentLaws.{units-before, units-part, units-few, units-are, units-many}
use Rattle.transition_writers.proofs.units_to.Goals as goal

pub returns-then-t-from : goal.returns-then-t-from
returns-then-t-from c = units-before _ _ _ _ _ c.if-t-from.true

pub returns-then-d-unit-ne0 : goal.returns-then-d-unit-ne0
returns-then-d-unit-ne0 c = units-part _ _ _ _ _ (omega arith) c.if-d-unit-ne0.true

pub returns-then-v-least : goal.returns-then-v-least
returns-then-v-least c = units-few _ _ _ _ _ (omega arith) c.if-d-unit-ne0.false c.if-v-least.true

pub returns-then-v-limit : goal.returns-then-v-limit
returns-then-v-limit c = units-are _ _ _ _ _ (omega arith) c.if-d-unit-ne0.false c.if-v-least.false c.if-v-limit.true

pub returns : goal.returns
returns c = units-many _ _ _ _ _ (omega arith) c.if-d-unit-ne0.false c.if-v-least.false c.if-v-limit.false
