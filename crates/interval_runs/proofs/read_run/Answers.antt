use native.Mathlib.Omega.{arith}
use mathlib.Core.Bool.{true}
use Prim.Native.Nat.{◌+◌, ◌-◌, ◌<◌}
use borrow.Author.Tests.{not-true}
use Rattle.interval_runs.specs.Run.{run_at}
use Rattle.places.proofs.LongLaws.{size-most}
use Rattle.interval_runs.proofs.StepLaws.{Going, none-early, none-late, going_start, going-passed, ends-done, ends-cut, ends-two, ends-short, ends-other, ends-late, judged, going-unasked, going_next}
use Rattle.interval_runs.proofs.read_run.Goals as goal
use Rattle.interval_runs.proofs.read_run.Goals.{After-read_fives-r, After-struct_known-in-loop-r-4-1}

-- where the intervals of five bytes end
going : (c : goal.After-read_fives-r)
    → Going c.args.s.now c.args.pool c.args.form c.args.stop c.args.n c.args.at c.args.prev c.read_fives-r.result
going c = going-passed _ _ _ _ _ _ _ _ _ c.loop-r.invariant (c.read_fives-r.ensures.passed _)

pub returns-then-prev-lt-FIRST : goal.returns-then-prev-lt-FIRST
returns-then-prev-lt-FIRST c = none-early _ _ _ _ _ _ _ c.if-prev-lt-FIRST.true

pub returns-then-prev-gt-LAST : goal.returns-then-prev-gt-LAST
returns-then-prev-gt-LAST c = none-late _ _ _ _ _ _ _ c.if-prev-gt-LAST.true

pub loop-r-init : goal.loop-r-init
loop-r-init c = going_start _ _ _ _ _ _ _ c.requires.0 c.if-prev-lt-FIRST.false c.if-prev-gt-LAST.false

pub read_fives-r-requires : goal.read_fives-r-requires
read_fives-r-requires c = (c.loop-r.invariant.inside, c.requires.1, c.loop-r.invariant.instant)

pub returns-then-r-eq0 : goal.returns-then-r-eq0
returns-then-r-eq0 c = ends-done _ _ _ _ _ _ _ _ (going (goal.at.returns-then-r-eq0 c).After-read_fives-r) c.if-r-eq0.true

pub overflow_sub-left : goal.overflow_sub-left
overflow_sub-left c = (going (goal.at.overflow_sub-left c).After-read_fives-r).inside

pub returns-then-left-lt5 : goal.returns-then-left-lt5
returns-then-left-lt5 c = ends-cut _ _ _ _ _ _ _ _ (going (goal.at.returns-then-left-lt5 c).After-read_fives-r) c.if-left-lt5.true

pub start_size-k-requires : goal.start_size-k-requires
start_size-k-requires c = omega (arith, c.if-left-lt5.false, (going (goal.at.start_size-k-requires c).After-read_fives-r).inside)

pub returns-then-k-eq2 : goal.returns-then-k-eq2
returns-then-k-eq2 c = ends-two _ _ _ _ _ _ _ _ (going (goal.at.returns-then-k-eq2 c).After-read_fives-r) _ c.start_size-k.ensures _ c.read_fives-r.ensures c.if-k-eq2.true

pub overflow_add-k : goal.overflow_add-k
overflow_add-k c = omega (arith, size-most _ _ _ c.start_size-k.ensures)

pub returns-then-left-k : goal.returns-then-left-k
returns-then-left-k c = ends-short _ _ _ _ _ _ _ _ (going (goal.at.returns-then-left-k c).After-read_fives-r) _ c.start_size-k.ensures c.if-left-k.true

pub long_step-start-requires : goal.long_step-start-requires
long_step-start-requires c = (omega (arith, c.if-left-k.false, (going (goal.at.long_step-start-requires c).After-read_fives-r).inside), (going (goal.at.long_step-start-requires c).After-read_fives-r).instant, c.start_size-k.ensures, c.if-k-eq2.false)

pub returns-then-start-eq0 : goal.returns-then-start-eq0
returns-then-start-eq0 c = ends-other _ _ _ _ _ _ _ _ (going (goal.at.returns-then-start-eq0 c).After-read_fives-r) _ c.start_size-k.ensures c.if-left-k.false c.if-k-eq2.false _ c.long_step-start.ensures c.if-start-eq0.true

pub returns-then-stop-start : goal.returns-then-stop-start
returns-then-stop-start c = ends-late _ _ _ _ _ _ _ _ (going (goal.at.returns-then-stop-start c).After-read_fives-r) _ c.start_size-k.ensures c.if-left-k.false c.if-k-eq2.false _ c.long_step-start.ensures c.if-start-eq0.false c.if-stop-start.true

pub overflow_sub-r : goal.overflow_sub-r
overflow_sub-r c = omega (arith, c.if-r-eq0.false)

pub overflow_add-r : goal.overflow_add-r
overflow_add-r c = omega (arith, size-most _ _ _ c.start_size-k.ensures)

pub overflow_add-r-in-loop-r : goal.overflow_add-r-in-loop-r
overflow_add-r-in-loop-r c = omega (arith, c.if-left-k.false, (going (goal.at.overflow_add-r-in-loop-r c).After-read_fives-r).inside)

-- where a longer start is taken
gone : (c : goal.After-struct_known-in-loop-r-4-1)
    → Going c.args.s.now c.args.pool c.args.form c.args.stop c.args.n c.args.at c.args.prev
    (run_at (c.read_fives-r.result.left - 1) (c.read_fives-r.result.place + (c.start_size-k.result + 3)) c.long_step-start.result)
gone c = going_next _ _ _ _ _ _ _ _ (going (goal.at.overflow_add-r-in-loop-r c).After-read_fives-r) _ c.start_size-k.ensures c.if-left-k.false c.if-k-eq2.false _ c.long_step-start.ensures c.if-start-eq0.false (omega (arith, c.if-r-eq0.false)) c.if-stop-start.false

less : (c : goal.After-struct_known-in-loop-r-4-1) → c.read_fives-r.result.left - 1 < c.loop-r.r.left
less c = omega (arith, c.if-r-eq0.false, (c.read_fives-r.ensures.passed true).fewer)

pub read_ticks-r-requires : goal.read_ticks-r-requires
read_ticks-r-requires c = ((gone (goal.at.read_ticks-r-requires c).After-struct_known-in-loop-r-4-1).inside, c.requires.1, (gone (goal.at.read_ticks-r-requires c).After-struct_known-in-loop-r-4-1).instant, omega arith, judged _ _ _ _ _ _ _ _ (going (goal.at.read_ticks-r-requires c).After-read_fives-r) _ c.start_size-k.ensures c.if-left-k.false c.if-k-eq2.false _ c.long_step-start.ensures c.if-start-eq0.false)

pub loop-r-smaller-then-not-form : goal.loop-r-smaller-then-not-form
loop-r-smaller-then-not-form c = omega (arith, c.read_ticks-r.ensures.fewer, less (goal.at.loop-r-smaller-then-not-form c).After-struct_known-in-loop-r-4-1)

pub loop-r-preserved-then-not-form : goal.loop-r-preserved-then-not-form
loop-r-preserved-then-not-form c = going-unasked _ _ _ _ _ _ _ _ _ (gone (goal.at.loop-r-preserved-then-not-form c).After-struct_known-in-loop-r-4-1) c.if-not-form.true c.read_ticks-r.ensures

pub loop-r-smaller-else-not-form : goal.loop-r-smaller-else-not-form
loop-r-smaller-else-not-form c = less (goal.at.loop-r-smaller-else-not-form c).After-struct_known-in-loop-r-4-1

pub loop-r-preserved-else-not-form : goal.loop-r-preserved-else-not-form
loop-r-preserved-else-not-form c = gone (goal.at.loop-r-preserved-else-not-form c).After-struct_known-in-loop-r-4-1

pub loop-r-smaller : goal.loop-r-smaller
loop-r-smaller c = less (goal.at.loop-r-smaller c).After-struct_known-in-loop-r-4-1

pub loop-r-preserved : goal.loop-r-preserved
loop-r-preserved c = gone (goal.at.loop-r-preserved c).After-struct_known-in-loop-r-4-1

pub returns : goal.returns
returns c = ends-done _ _ _ _ _ _ _ _ c.loop-r.invariant (omega arith)
