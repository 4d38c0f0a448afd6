use native.Mathlib.Omega.{arith}
use Rattle.transitions.proofs.MomentLaws.{by-start, by_end, by-none, by-hours, by-minutes}
use Rattle.transition_readers.proofs.from_count.Goals as goal

pub returns-then-v-eq0 : goal.returns-then-v-eq0
returns-then-v-eq0 c = by-start _ _ _ c.if-v-eq0.true

pub returns-then-v-eq1 : goal.returns-then-v-eq1
returns-then-v-eq1 c = by_end _ _ _ c.if-v-eq1.true

pub returns-then-v-lt128 : goal.returns-then-v-lt128
returns-then-v-lt128 c = by-none _ _ _ c.if-v-eq0.false c.if-v-eq1.false (omega arith)

pub returns-then-v-lt2097152 : goal.returns-then-v-lt2097152
returns-then-v-lt2097152 c = by-hours _ _ _ _ (omega arith) (omega arith) c.hours_after.ensures

pub returns : goal.returns
returns c = by-minutes _ _ _ _ (omega arith) c.in_range.ensures
