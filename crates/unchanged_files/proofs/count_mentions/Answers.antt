use Rattle.unchanged_files.proofs.PlainLaws.{plain-start, plain-next, plain_end}
use Rattle.unchanged_files.proofs.CountLaws.{counting-start, turn, pool-here, zone-here, field_fits, counting-next, counting-end}
use Rattle.unchanged_files.proofs.UnreadLaws.{seeking-start, seeking-found, seeking-next, seeking-end}
use native.Mathlib.Omega.{arith}
use Prim.Native.Nat.{◌-◌}
use mathlib.Core.Path.{sym, ◌∙◌}
use Rattle.unchanged_files.proofs.count_mentions.Goals as goal

pub loop-at-init : goal.loop-at-init
loop-at-init c = (seeking-start _ c.requires.0, counting-start _ _ c.requires.0 c.requires.1, plain-start _ _ c.requires.0)

pub read_field-f-requires : goal.read_field-f-requires
read_field-f-requires c = c.loop-at-test.true

pub is_unread-requires : goal.is_unread-requires
is_unread-requires c = Prim.tt

pub shape_of-uses-then-is_unread : goal.shape_of-uses-then-is_unread
shape_of-uses-then-is_unread c = c.loop-at.invariant.1.all

pub returns-then-is_unread : goal.returns-then-is_unread
returns-then-is_unread c = record { means = seeking-found _ _ c.loop-at.invariant.0 _ c.loop-at-test.true c.read_field-f.ensures (sym c.is_unread.ensures ∙ c.if-is_unread.true) }

pub overflow_sub-a : goal.overflow_sub-a
overflow_sub-a c = let u = turn _ _ _ _ c.loop-at.invariant.1 _ c.loop-at-test.true c.read_field-f.ensures in omega (arith, u.farther)

pub slice_bounds-is_plain-count : goal.slice_bounds-is_plain-count
slice_bounds-is_plain-count c = (turn _ _ _ _ c.loop-at.invariant.1 _ c.loop-at-test.true c.read_field-f.ensures).ordered

pub slice_bounds-is_plain-start : goal.slice_bounds-is_plain-start
slice_bounds-is_plain-start c = (turn _ _ _ _ c.loop-at.invariant.1 _ c.loop-at-test.true c.read_field-f.ensures).ordered

pub slice_bounds-is_plain-end : goal.slice_bounds-is_plain-end
slice_bounds-is_plain-end c = (turn _ _ _ _ c.loop-at.invariant.1 _ c.loop-at-test.true c.read_field-f.ensures).within

pub is_plain-plain-requires : goal.is_plain-plain-requires
is_plain-plain-requires c = pool-here _ _ _ _ c.loop-at.invariant.1 _ c.loop-at-test.true c.read_field-f.ensures

pub slice_bounds-count_field-count : goal.slice_bounds-count_field-count
slice_bounds-count_field-count c = (turn _ _ _ _ c.loop-at.invariant.1 _ c.loop-at-test.true c.read_field-f.ensures).ordered

pub slice_bounds-count_field-start : goal.slice_bounds-count_field-start
slice_bounds-count_field-start c = (turn _ _ _ _ c.loop-at.invariant.1 _ c.loop-at-test.true c.read_field-f.ensures).ordered

pub slice_bounds-count_field-end : goal.slice_bounds-count_field-end
slice_bounds-count_field-end c = (turn _ _ _ _ c.loop-at.invariant.1 _ c.loop-at-test.true c.read_field-f.ensures).within

pub count_field-requires : goal.count_field-requires
count_field-requires c = (zone-here _ _ _ _ c.loop-at.invariant.1 _ c.loop-at-test.true c.read_field-f.ensures, field_fits _ _ _ _ c.loop-at.invariant.1 _ c.loop-at-test.true c.read_field-f.ensures)

pub loop-at-smaller : goal.loop-at-smaller
loop-at-smaller c = let u = turn _ _ _ _ c.loop-at.invariant.1 _ c.loop-at-test.true c.read_field-f.ensures in omega (arith, u.farther, u.ordered, u.within)

pub loop-at-preserved : goal.loop-at-preserved
loop-at-preserved c = (seeking-next _ _ c.loop-at.invariant.0 _ c.loop-at-test.true c.read_field-f.ensures (sym c.is_unread.ensures ∙ c.if-is_unread.false), counting-next _ _ _ _ c.loop-at.invariant.1 _ c.loop-at-test.true c.read_field-f.ensures _ c.count_field.ensures, plain-next _ _ _ _ c.loop-at.invariant.2 _ c.loop-at-test.true c.read_field-f.ensures (λ i. omega (arith, c.shared_slice_known-1.given i)) _ c.is_plain-plain.ensures)

pub shape_of-uses : goal.shape_of-uses
shape_of-uses c = c.loop-at.invariant.1.all

pub returns : goal.returns
returns c = record { means = (seeking-end _ _ c.loop-at.invariant.0 c.loop-at-test.false, counting-end _ _ _ _ c.loop-at.invariant.1 c.loop-at-test.false, plain_end _ _ _ _ c.loop-at.invariant.2 c.loop-at-test.false) }
