use native.Mathlib.Omega.{arith}
use Rattle.counted_zones.proofs.BodyLaws.{body-rises, body-offset, body-nameless, body-name, body-named, body-count, body-list, body-end, body-tail, body-names}
use Rattle.counted_zones.proofs.count_body.Goals as goal

pub overflow_add-a : goal.overflow_add-a
overflow_add-a c = omega (arith, body-rises c.args.s.now c.args.at, c.requires.0, c.well_formed)

pub bounds-s-at : goal.bounds-s-at
bounds-s-at c = omega (arith, body-rises c.args.s.now c.args.at, c.requires.0)

pub sum_end-e-requires : goal.sum_end-e-requires
sum_end-e-requires c = body-offset _ _ c.requires.0 c.if-s-at-eq1.true

pub count_name-requires : goal.count_name-requires
count_name-requires c = body-name _ _ c.requires.0 c.if-s-at-eq1.true _ c.sum_end-e.ensures _ c.if-e-s.true c.requires.1

pub returns-then-e-s : goal.returns-then-e-s
returns-then-e-s c = body-named _ _ c.requires.0 c.if-s-at-eq1.true _ c.sum_end-e.ensures _ c.if-e-s.true _ _ c.count_name.ensures

pub returns-else-e-s : goal.returns-else-e-s
returns-else-e-s c = body-nameless _ _ c.requires.0 c.if-s-at-eq1.true _ c.sum_end-e.ensures _ c.if-e-s.false

pub number_at-n-requires : goal.number_at-n-requires
number_at-n-requires c = body-count _ _ c.requires.0 c.if-s-at-eq1.false

pub number_end-from-requires : goal.number_end-from-requires
number_end-from-requires c = body-count _ _ c.requires.0 c.if-s-at-eq1.false

pub count_intervals-at_end-requires : goal.count_intervals-at_end-requires
count_intervals-at_end-requires c = body-list _ _ c.requires.0 c.if-s-at-eq1.false _ c.number_at-n.ensures _ c.number_end-from.ensures _ c.requires.1

pub moment_end-tail-requires : goal.moment_end-tail-requires
moment_end-tail-requires c = body-end _ _ c.requires.0 c.if-s-at-eq1.false _ c.number_at-n.ensures _ c.number_end-from.ensures _ _ _ c.count_intervals-at_end.ensures

pub count_tail-requires : goal.count_tail-requires
count_tail-requires c = body-tail _ _ c.requires.0 c.if-s-at-eq1.false _ c.number_at-n.ensures _ c.number_end-from.ensures _ _ _ c.count_intervals-at_end.ensures _ c.moment_end-tail.ensures c.requires.1

pub returns : goal.returns
returns c = body-names _ _ c.requires.0 c.if-s-at-eq1.false _ c.number_at-n.ensures _ c.number_end-from.ensures _ _ _ c.count_intervals-at_end.ensures _ c.moment_end-tail.ensures _ c.count_tail.ensures
