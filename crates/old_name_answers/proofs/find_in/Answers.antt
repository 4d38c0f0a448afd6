use native.Mathlib.Omega.{arith}
use Rattle.old_named_questions.proofs.TargetLaws.{looking-start, looking-done, never-pair, pair_inside, looking-found, looking-next}
use Rattle.old_name_answers.proofs.find_in.Goals as goal

pub loop-left-init : goal.loop-left-init
loop-left-init c = looking-start _ _ _ _ c.requires

pub pair_at-requires : goal.pair_at-requires
pair_at-requires c = c.loop-left.invariant.inside

pub returns-in-None : goal.returns-in-None
returns-in-None c = never-pair _ _ _ _ _ c.loop-left.invariant c.loop-left-test.true _ c.pair_at.ensures c.in-None.is

pub slice_bounds-same-count : goal.slice_bounds-same-count
slice_bounds-same-count c = (pair_inside _ _ _ _ _ c.loop-left.invariant c.loop-left-test.true _ c.pair_at.ensures _ _ _ _ c.in-Some.is).0

pub slice_bounds-same-start : goal.slice_bounds-same-start
slice_bounds-same-start c = (pair_inside _ _ _ _ _ c.loop-left.invariant c.loop-left-test.true _ c.pair_at.ensures _ _ _ _ c.in-Some.is).0

pub slice_bounds-same-end : goal.slice_bounds-same-end
slice_bounds-same-end c = (pair_inside _ _ _ _ _ c.loop-left.invariant c.loop-left-test.true _ c.pair_at.ensures _ _ _ _ c.in-Some.is).1

pub returns-then-same : goal.returns-then-same
returns-then-same c = looking-found _ _ _ _ _ c.loop-left.invariant c.loop-left-test.true _ c.pair_at.ensures _ _ _ _ c.in-Some.is _ c.same.ensures c.if-same.true

pub overflow_sub-left : goal.overflow_sub-left
overflow_sub-left c = omega (arith, c.loop-left-test.true)

pub loop-left-smaller : goal.loop-left-smaller
loop-left-smaller c = omega (arith, c.loop-left-test.true)

pub loop-left-preserved : goal.loop-left-preserved
loop-left-preserved c = looking-next _ _ _ _ _ c.loop-left.invariant c.loop-left-test.true _ c.pair_at.ensures _ _ _ _ c.in-Some.is _ c.same.ensures c.if-same.false

pub returns : goal.returns
returns c = looking-done _ _ _ _ _ c.loop-left.invariant (omega arith)
