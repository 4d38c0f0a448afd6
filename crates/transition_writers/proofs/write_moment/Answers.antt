use native.Mathlib.Omega.{arith}
use Rattle.transitions.proofs.MomentWriteLaws.{as-start, as-end, too-early, too-late, as-ticks, as-count}
use Rattle.transition_writers.proofs.write_moment.Goals as goal

pub returns-then-m-eq0 : goal.returns-then-m-eq0
returns-then-m-eq0 c = as-start _ _ _ _ _ c.if-m-eq0.true c.write_count.ensures

pub returns-then-m-eq-END : goal.returns-then-m-eq-END
returns-then-m-eq-END c = as-end _ _ _ _ _ c.if-m-eq-END.true c.write_count-then-m-eq-END.ensures

pub returns-then-m-lt-FIRST : goal.returns-then-m-lt-FIRST
returns-then-m-lt-FIRST c = too-early _ c.args.m _ c.if-m-eq0.false c.if-m-eq-END.false (omega arith)

pub returns-then-m-gt-LAST : goal.returns-then-m-gt-LAST
returns-then-m-gt-LAST c = too-late _ c.args.m _ c.if-m-eq0.false c.if-m-eq-END.false (omega arith)

pub returns-then-v-eq0 : goal.returns-then-v-eq0
returns-then-v-eq0 c = as-ticks _ c.args.m _ _ _ (record { low = omega arith; high = omega arith }) _ _ c.count_to-v.ensures c.if-v-eq0.true c.raw_of.ensures
    c.write_ticks.ensures

pub returns : goal.returns
returns c = as-count _ c.args.m _ _ _ (record { low = omega arith; high = omega arith }) _ c.count_to-v.ensures c.if-v-eq0.false c.write_count-2.ensures
