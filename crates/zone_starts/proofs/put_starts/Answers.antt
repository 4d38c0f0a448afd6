use mathlib.Core.Path.{ap, ◌∙◌}
use native.Mathlib.Omega.{arith}
use mir.Syntax.{w64}
use mir.Facts.{to_z-of_z}
use Rattle.places.proofs.PlaceLaws.{stands-is}
use Rattle.intervals.specs.Scan.{of_interval}
use Rattle.zone_starts.proofs.PutLaws.{putting-start, putting-in, putting-room, putting-few, putting-next, putting-usual, putting-length, putting-never, putting-done}
use Rattle.zone_starts.proofs.put_starts.Goals as goal

pub loop-left-init : goal.loop-left-init
loop-left-init c = putting-start _ _ _ _ _ c.requires.0.inside

pub short_next-m-requires : goal.short_next-m-requires
short_next-m-requires c = putting-in _ _ _ _ _ _ _ _ _ _ c.loop-left.invariant

pub offset_bounds-out-i : goal.offset_bounds-out-i
offset_bounds-out-i c = omega (arith, putting-few _ _ _ _ _ _ _ _ _ _ c.loop-left.invariant c.loop-left-test.true c.requires.1, c.requires.0.most)

pub bounds-out-i : goal.bounds-out-i
bounds-out-i c = putting-room _ _ _ _ _ _ _ _ _ _ c.loop-left.invariant c.loop-left-test.true c.requires.1

pub overflow_add-i : goal.overflow_add-i
overflow_add-i c = omega (arith, putting-few _ _ _ _ _ _ _ _ _ _ c.loop-left.invariant c.loop-left-test.true c.requires.1, c.requires.0.most)

pub overflow_add-place : goal.overflow_add-place
overflow_add-place c = omega (arith, c.short_next-m.ensures.room c.if-m-ne0.true, c.well_formed.0.0)

pub loop-left-preserved-then-m-ne0 : goal.loop-left-preserved-then-m-ne0
loop-left-preserved-then-m-ne0 c = putting-usual _ _ _ _ _ _ _ _ _ _ c.loop-left.invariant c.loop-left-test.true c.requires.1 _ c.short_next-m.ensures c.if-m-ne0.true _
    (to_z-of_z {w = w64} {z = c.ticks.result} (record { sfits = c.ticks.type_inv }) ∙ c.ticks.ensures)

pub read_interval-item-requires : goal.read_interval-item-requires
read_interval-item-requires c = putting-in _ _ _ _ _ _ _ _ _ _ c.loop-left.invariant

pub shape_of-out-in-Err : goal.shape_of-out-in-Err
shape_of-out-in-Err c = putting-never _ _ _ _ _ _ _ _ _ _ c.loop-left.invariant _ c.loop-left-test.true c.requires.0
    (stands-is c.read_interval-item.ensures (ap of_interval c.in-Err.is))

pub returns-in-Err : goal.returns-in-Err
returns-in-Err c = putting-never _ _ _ _ _ _ _ _ _ _ c.loop-left.invariant _ c.loop-left-test.true c.requires.0
    (stands-is c.read_interval-item.ensures (ap of_interval c.in-Err.is))

pub offset_bounds-out-i-in-Ok : goal.offset_bounds-out-i-in-Ok
offset_bounds-out-i-in-Ok c = omega (arith, putting-few _ _ _ _ _ _ _ _ _ _ c.loop-left.invariant c.loop-left-test.true c.requires.1, c.requires.0.most)

pub bounds-out-i-in-Ok : goal.bounds-out-i-in-Ok
bounds-out-i-in-Ok c = putting-room _ _ _ _ _ _ _ _ _ _ c.loop-left.invariant c.loop-left-test.true c.requires.1

pub overflow_add-i-in-Ok : goal.overflow_add-i-in-Ok
overflow_add-i-in-Ok c = omega (arith, putting-few _ _ _ _ _ _ _ _ _ _ c.loop-left.invariant c.loop-left-test.true c.requires.1, c.requires.0.most)

pub loop-left-preserved : goal.loop-left-preserved
loop-left-preserved c = putting-next _ _ _ _ _ _ _ _ _ _ c.loop-left.invariant c.loop-left-test.true c.requires.1 _ _
    (stands-is c.read_interval-item.ensures (ap of_interval c.in-Ok.is)) _
    (to_z-of_z {w = w64} {z = c.ticks-in-Ok.result} (record { sfits = c.ticks-in-Ok.type_inv }) ∙ c.ticks-in-Ok.ensures)

pub shape_of-out : goal.shape_of-out
shape_of-out c = putting-length _ _ _ _ _ _ _ _ _ _ c.loop-left.invariant c.requires.1

pub returns : goal.returns
returns c = putting-done _ _ _ _ _ _ _ _ _ _ c.loop-left.invariant (omega arith)
