use mathlib.Core.Path.{sym, ap, ◌∙◌}
use Prim.Native.Nat.{ℕ, ◌+◌, ◌-◌}
use native.Mathlib.Omega.{arith}
use lib.ListN.{length}
use Rattle.closed_walks.proofs.WriteLaws.{going_end, turn, part-short, keeps_here, pool-here, measuring-start, data-bound, measured-most, measuring-next, measuring-end}
use Rattle.closed_walks.proofs.total.Goals as goal

pub loop-at-init : goal.loop-at-init
loop-at-init c = measuring-start _ _ _ c.requires.0 _

pub read_field-f-requires : goal.read_field-f-requires
read_field-f-requires c = c.loop-at-test.true

pub slice_bounds-data_size-count : goal.slice_bounds-data_size-count
slice_bounds-data_size-count c = (turn _ _ _ _ _ c.loop-at.invariant.going _ c.loop-at-test.true c.read_field-f.ensures).ordered

pub slice_bounds-data_size-start : goal.slice_bounds-data_size-start
slice_bounds-data_size-start c = (turn _ _ _ _ _ c.loop-at.invariant.going _ c.loop-at-test.true c.read_field-f.ensures).ordered

pub slice_bounds-data_size-end : goal.slice_bounds-data_size-end
slice_bounds-data_size-end c = (turn _ _ _ _ _ c.loop-at.invariant.going _ c.loop-at-test.true c.read_field-f.ensures).within

pub data_size-k-requires : goal.data_size-k-requires
data_size-k-requires c = (part-short _ _ _ _ _ c.loop-at.invariant.going _ c.loop-at-test.true c.read_field-f.ensures c.requires.0 c.requires.1, c.requires.1, keeps_here _ _ _ _ _ c.loop-at.invariant.going _ c.loop-at-test.true c.read_field-f.ensures _ c.requires.2, pool-here _ _ _ _ _ c.loop-at.invariant.going _ c.loop-at-test.true c.read_field-f.ensures)

pub overflow_cast-k : goal.overflow_cast-k
overflow_cast-k c = omega (arith, data-bound _ _ _ _ _ _ _ _ c.loop-at.invariant _ c.loop-at-test.true c.read_field-f.ensures c.requires.0 c.requires.1 _ c.data_size-k.ensures)

pub field_size-n-requires : goal.field_size-n-requires
field_size-n-requires c = data-bound _ _ _ _ _ _ _ _ c.loop-at.invariant _ c.loop-at-test.true c.read_field-f.ensures c.requires.0 c.requires.1 _ c.data_size-k.ensures

pub overflow_add-n : goal.overflow_add-n
overflow_add-n c = omega (arith, measured-most _ _ _ _ _ _ _ _ c.loop-at.invariant _ c.loop-at-test.true c.read_field-f.ensures c.requires.0 c.requires.1 _ c.data_size-k.ensures _ c.field_size-n.ensures)

pub overflow_add-i : goal.overflow_add-i
overflow_add-i c = omega (arith, c.loop-at.invariant.count, c.loop-at.invariant.going.early, c.loop-at.invariant.going.within)

pub loop-at-smaller : goal.loop-at-smaller
loop-at-smaller c = let u = (turn _ _ _ _ _ c.loop-at.invariant.going _ c.loop-at-test.true c.read_field-f.ensures) in omega (arith, u.farther, u.ordered, u.within)

pub loop-at-preserved : goal.loop-at-preserved
loop-at-preserved c = measuring-next _ _ _ _ _ _ _ _ c.loop-at.invariant _ c.loop-at-test.true c.read_field-f.ensures c.requires.0 c.requires.1 _ c.data_size-k.ensures _ c.field_size-n.ensures _ c.store.ensures

pub overflow_add-result : goal.overflow_add-result
overflow_add-result c = omega (arith, c.loop-at.invariant.sum, c.loop-at.invariant.going.most, c.loop-at.invariant.going.within)

pub shape_of-sizes : goal.shape_of-sizes
shape_of-sizes c = c.loop-at.invariant.long

pub returns : goal.returns
returns c = (ap (λ (x : ℕ). 4 + x) (c.loop-at.invariant.sum ∙ ap length (sym (going_end _ _ _ _ _ c.loop-at.invariant.going c.loop-at-test.false))), measuring-end _ _ _ _ _ _ _ _ c.loop-at.invariant c.loop-at-test.false)
