use mathlib.Core.Path.{refl}
use mathlib.Core.List.{[]}
use Prim.Native.Nat.{◌-◌}
use native.Mathlib.Omega.{arith}
use lib.ListN.{length-append}
use Rattle.rewrite.proofs.OutcomeLaws.{file-length}
use Rattle.preferred_walks.proofs.ReadyLaws.{walking_start, walking-done, walking-sum, Turn, walking-turn, turn-sum}
use Rattle.preferred_walks.proofs.total.Goals as goal
use Rattle.preferred_walks.proofs.total.Goals.{After-read_field-f}

-- the field that was read
turn : (c : goal.After-read_field-f) → Turn c.args.s.now c.args.flags.now c.loop-at.at c.loop-at.invariant.0 c.read_field-f.result
turn c = walking-turn _ _ _ _ _ c.loop-at.invariant.1 (omega arith) c.read_field-f.ensures

pub loop-at-init : goal.loop-at-init
loop-at-init c = ([], walking_start _ _ c.requires, refl)

pub slice_bounds-field_size-count : goal.slice_bounds-field_size-count
slice_bounds-field_size-count c = (turn c).ordered

pub slice_bounds-field_size-start : goal.slice_bounds-field_size-start
slice_bounds-field_size-start c = (turn c).ordered

pub slice_bounds-field_size-end : goal.slice_bounds-field_size-end
slice_bounds-field_size-end c = (turn c).within

pub field_size-n-requires : goal.field_size-n-requires
field_size-n-requires c = ((turn (goal.at.field_size-n-requires c).After-read_field-f).readable, omega (arith, turn-sum (turn (goal.at.field_size-n-requires c).After-read_field-f), file-length c.args.s.now, c.requires.limit))

pub overflow_add-n : goal.overflow_add-n
overflow_add-n c = omega (arith, turn-sum (turn (goal.at.overflow_add-n c).After-read_field-f), file-length c.args.s.now, c.requires.limit, c.field_size-n.ensures, c.loop-at.invariant.2)

pub loop-at-smaller : goal.loop-at-smaller
loop-at-smaller c = omega (arith, (turn (goal.at.loop-at-smaller c).After-read_field-f).farther, (turn (goal.at.loop-at-smaller c).After-read_field-f).within)

pub loop-at-preserved : goal.loop-at-preserved
loop-at-preserved c = (_, (turn (goal.at.loop-at-preserved c).After-read_field-f).next, rw (length-append, ← c.field_size-n.ensures, ← c.loop-at.invariant.2))

pub overflow_add-result : goal.overflow_add-result
overflow_add-result c = omega (arith, walking-sum _ _ _ _ c.loop-at.invariant.1, file-length c.args.s.now, c.requires.limit, c.loop-at.invariant.2)

pub returns : goal.returns
returns c = rw (file-length c.args.s.now, walking-done _ _ _ _ c.loop-at.invariant.1 (omega arith), ← c.loop-at.invariant.2)
