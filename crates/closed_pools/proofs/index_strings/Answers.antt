use mathlib.Core.Path.{refl, sym, ◌∙◌}
use native.Mathlib.Omega.{arith}
use Rattle.counts.proofs.CountLaws.{counted}
use Rattle.pool.proofs.FillLaws.{filling-start, filling-next, here, here-inside}
use Rattle.closed_pools.proofs.IndexLaws.{count-few, text-here, text-some, all-indexed}
use Rattle.closed_pools.proofs.index_strings.Goals as goal

pub loop-i-init : goal.loop-i-init
loop-i-init c = let x = counted _ (sym c.requires.1) in filling-start _ _ _ _ x.within x.size

pub count_from-g-requires : goal.count_from-g-requires
count_from-g-requires c = c.loop-i.invariant.inside

pub shape_of-starts-in-Err : goal.shape_of-starts-in-Err
shape_of-starts-in-Err c = c.loop-i.invariant.size

pub returns-in-Err : goal.returns-in-Err
returns-in-Err c = absurd (text-some _ c.requires.0 _ _ c.requires.1 _ _ _ _ c.loop-i.invariant c.loop-i-test.true _ (sym c.count_from-g.ensures ∙ c.in-Err.is))

pub overflow_cast-starts : goal.overflow_cast-starts
overflow_cast-starts c = omega (arith, c.loop-i.invariant.small, c.loop-i-test.true, count-few _ c.requires.0 _ _ c.requires.1)

pub offset_bounds-starts-i : goal.offset_bounds-starts-i
offset_bounds-starts-i c = omega (arith, c.loop-i-test.true, count-few _ c.requires.0 _ _ c.requires.1)

pub bounds-starts-i : goal.bounds-starts-i
bounds-starts-i c = omega (arith, c.loop-i.invariant.size, c.loop-i-test.true, count-few _ c.requires.0 _ _ c.requires.1, c.requires.2)

pub overflow_add-at : goal.overflow_add-at
overflow_add-at c = let x = here _ _ _ _ _ _ _ c.loop-i.invariant c.loop-i-test.true _ (text-here _ c.requires.0 _ _ c.requires.1 _ _ _ _ c.loop-i.invariant c.loop-i-test.true _ c.count_from-g.ensures _ _ c.in-Ok.is) _ _ refl in omega (arith, x.small, x.short)

pub overflow_add-at-in-Ok : goal.overflow_add-at-in-Ok
overflow_add-at-in-Ok c = let x = here-inside _ _ _ _ _ _ _ c.loop-i.invariant c.loop-i-test.true _ (text-here _ c.requires.0 _ _ c.requires.1 _ _ _ _ c.loop-i.invariant c.loop-i-test.true _ c.count_from-g.ensures _ _ c.in-Ok.is) _ _ refl in omega arith

pub loop-i-preserved : goal.loop-i-preserved
loop-i-preserved c = filling-next _ _ _ _ _ _ _ c.loop-i.invariant c.loop-i-test.true _ (text-here _ c.requires.0 _ _ c.requires.1 _ _ _ _ c.loop-i.invariant c.loop-i-test.true _ c.count_from-g.ensures _ _ c.in-Ok.is) _ _ refl

pub shape_of-starts : goal.shape_of-starts
shape_of-starts c = c.loop-i.invariant.size

pub returns : goal.returns
returns c = all-indexed _ c.requires.0 _ _ c.requires.1 _ _ _ _ c.loop-i.invariant c.loop-i-test.false c.requires.2
