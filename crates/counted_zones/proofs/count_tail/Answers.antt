use native.Mathlib.Omega.{arith}
use Rattle.counted_zones.proofs.BodyLaws.{tail-byte, tail_none, tail-offset, tail-standard, tail-rule, tail-month, tail-day, tail-time, tail-daylight, tail-names}
use Rattle.counted_zones.proofs.count_tail.Goals as goal

pub bounds-s-at : goal.bounds-s-at
bounds-s-at c = tail-byte _ _ c.requires.0

pub returns-then-s-at-ne1 : goal.returns-then-s-at-ne1
returns-then-s-at-ne1 c = tail_none _ _ c.requires.0 _ c.if-s-at-ne1.true

pub overflow_add-at : goal.overflow_add-at
overflow_add-at c = omega (arith, tail-byte c.args.s.now c.args.at c.requires.0, c.well_formed)

pub sum_end-n-requires : goal.sum_end-n-requires
sum_end-n-requires c = tail-offset _ _ c.requires.0 c.if-s-at-ne1.false

pub count_name-p-requires : goal.count_name-p-requires
count_name-p-requires c = tail-standard _ _ c.requires.0 c.if-s-at-ne1.false _ c.sum_end-n.ensures _ c.requires.1

pub overflow_add-p : goal.overflow_add-p
overflow_add-p c = omega (arith, tail-rule _ _ c.requires.0 c.if-s-at-ne1.false _ c.sum_end-n.ensures _ _ _ c.count_name-p.ensures, c.well_formed)

pub count_end-month-requires : goal.count_end-month-requires
count_end-month-requires c = tail-month _ _ c.requires.0 c.if-s-at-ne1.false _ c.sum_end-n.ensures _ _ _ c.count_name-p.ensures

pub count_end-day-requires : goal.count_end-day-requires
count_end-day-requires c = tail-day _ _ c.requires.0 c.if-s-at-ne1.false _ c.sum_end-n.ensures _ _ _ c.count_name-p.ensures _ c.count_end-month.ensures

pub sum_end-time-requires : goal.sum_end-time-requires
sum_end-time-requires c = tail-time _ _ c.requires.0 c.if-s-at-ne1.false _ c.sum_end-n.ensures _ _ _ c.count_name-p.ensures _ c.count_end-month.ensures _ c.count_end-day.ensures

pub count_name-requires : goal.count_name-requires
count_name-requires c = tail-daylight _ _ c.requires.0 c.if-s-at-ne1.false _ c.sum_end-n.ensures _ _ _ c.count_name-p.ensures _ c.count_end-month.ensures _ c.count_end-day.ensures _ c.sum_end-time.ensures c.requires.1

pub returns : goal.returns
returns c = tail-names _ _ c.requires.0 c.if-s-at-ne1.false _ c.sum_end-n.ensures _ _ _ c.count_name-p.ensures _ c.count_end-month.ensures _ c.count_end-day.ensures _ c.sum_end-time.ensures _ _ c.count_name.ensures
