use native.Mathlib.Omega.{arith}
use Rattle.counted_zones.proofs.StepLaws.{count-rises, count-second, count-third, count-fourth, count-1, count-2, count-3, count-4, count-5}
use Rattle.counted_zones.proofs.count_end.Goals as goal

pub bounds-s-at : goal.bounds-s-at
bounds-s-at c = omega (arith, count-rises c.args.s.now c.args.at, c.requires)

pub overflow_add-result : goal.overflow_add-result
overflow_add-result c = omega (arith, count-rises c.args.s.now c.args.at, c.requires, c.well_formed)

pub returns-then-s-at-lt128 : goal.returns-then-s-at-lt128
returns-then-s-at-lt128 c = count-1 _ _ c.if-s-at-lt128.true

pub overflow_add-at : goal.overflow_add-at
overflow_add-at c = omega (arith, count-rises c.args.s.now c.args.at, c.requires, c.well_formed)

pub bounds-s-at-2 : goal.bounds-s-at-2
bounds-s-at-2 c = omega (arith, count-second c.args.s.now c.args.at c.if-s-at-lt128.false, c.requires)

pub overflow_add-result-then-s-at-lt128-2 : goal.overflow_add-result-then-s-at-lt128-2
overflow_add-result-then-s-at-lt128-2 c = omega (arith, count-second c.args.s.now c.args.at c.if-s-at-lt128.false, c.requires, c.well_formed)

pub returns-then-s-at-lt128-2 : goal.returns-then-s-at-lt128-2
returns-then-s-at-lt128-2 c = count-2 _ _ c.if-s-at-lt128.false c.if-s-at-lt128-2.true

pub overflow_add-at-2 : goal.overflow_add-at-2
overflow_add-at-2 c = omega (arith, count-second c.args.s.now c.args.at c.if-s-at-lt128.false, c.requires, c.well_formed)

pub bounds-s-at-3 : goal.bounds-s-at-3
bounds-s-at-3 c = omega (arith, count-third c.args.s.now c.args.at c.if-s-at-lt128.false c.if-s-at-lt128-2.false, c.requires)

pub overflow_add-result-then-s-at-lt128-3 : goal.overflow_add-result-then-s-at-lt128-3
overflow_add-result-then-s-at-lt128-3 c = omega (arith, count-third c.args.s.now c.args.at c.if-s-at-lt128.false c.if-s-at-lt128-2.false, c.requires, c.well_formed)

pub returns-then-s-at-lt128-3 : goal.returns-then-s-at-lt128-3
returns-then-s-at-lt128-3 c = count-3 _ _ c.if-s-at-lt128.false c.if-s-at-lt128-2.false c.if-s-at-lt128-3.true

pub overflow_add-at-3 : goal.overflow_add-at-3
overflow_add-at-3 c = omega (arith, count-third c.args.s.now c.args.at c.if-s-at-lt128.false c.if-s-at-lt128-2.false, c.requires, c.well_formed)

pub bounds-s-at-4 : goal.bounds-s-at-4
bounds-s-at-4 c = omega (arith, count-fourth c.args.s.now c.args.at c.if-s-at-lt128.false c.if-s-at-lt128-2.false c.if-s-at-lt128-3.false, c.requires)

pub overflow_add-result-then-s-at-lt128-4 : goal.overflow_add-result-then-s-at-lt128-4
overflow_add-result-then-s-at-lt128-4 c = omega (arith, count-fourth c.args.s.now c.args.at c.if-s-at-lt128.false c.if-s-at-lt128-2.false c.if-s-at-lt128-3.false, c.requires, c.well_formed)

pub returns-then-s-at-lt128-4 : goal.returns-then-s-at-lt128-4
returns-then-s-at-lt128-4 c = count-4 _ _ c.if-s-at-lt128.false c.if-s-at-lt128-2.false c.if-s-at-lt128-3.false c.if-s-at-lt128-4.true

pub overflow_add-result-2 : goal.overflow_add-result-2
overflow_add-result-2 c = omega (arith, count-5 c.args.s.now c.args.at c.if-s-at-lt128.false c.if-s-at-lt128-2.false c.if-s-at-lt128-3.false c.if-s-at-lt128-4.false, c.requires, c.well_formed)

pub returns : goal.returns
returns c = count-5 _ _ c.if-s-at-lt128.false c.if-s-at-lt128-2.false c.if-s-at-lt128-3.false c.if-s-at-lt128-4.false
