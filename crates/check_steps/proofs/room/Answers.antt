use mathlib.Core.Path.{◌∙◌}
use mathlib.Core.List.{[]}
use native.Mathlib.Omega.{arith}
use Prim.Native.Nat.{◌+◌, ◌≤◌, ◌<◌}
use lib.ListN.{length}
use Rattle.check_steps.proofs.StepLaws.{nothing, field_fits, room-short, room_by}
use Rattle.check_steps.proofs.room.Goals as goal
use Rattle.check_steps.proofs.room.Goals.{In-Whole}

-- the field ends in the file
fits : (c : goal.In-Whole) → (4 + (c.in-Whole.h + c.in-Whole.n) ≤ length c.args.s.now) × (4 + (c.in-Whole.h + c.in-Whole.n) ≤ 4194304) × (0 < c.in-Whole.h)
fits c = field_fits c.args.s.now (record { at = 4; prev = 0; kept = nothing }) [] [] _ c.read_frame.ensures _ _ _ c.in-Whole.is (omega arith)

pub returns-then-s-lt4 : goal.returns-then-s-lt4
returns-then-s-lt4 c = room-short c.args.s.now c.if-s-lt4.true

pub overflow_add-a : goal.overflow_add-a
overflow_add-a c = omega (arith, fits c)

pub overflow_add-e : goal.overflow_add-e
overflow_add-e c = omega (arith, fits c)

pub overflow_add-e-in-Whole : goal.overflow_add-e-in-Whole
overflow_add-e-in-Whole c = omega (arith, fits c)

pub slice_bounds-room-end : goal.slice_bounds-room-end
slice_bounds-room-end c = (fits c).0

pub returns-in-End : goal.returns-in-End
returns-in-End c = room_by c.args.s.now _ c.read_frame.ensures _ c.in-End.is

pub returns-in-Cut : goal.returns-in-Cut
returns-in-Cut c = room_by c.args.s.now _ c.read_frame.ensures _ c.in-Cut.is

pub returns-in-Refused : goal.returns-in-Refused
returns-in-Refused c = room_by c.args.s.now _ c.read_frame.ensures _ c.in-Refused.is

pub returns-in-Version : goal.returns-in-Version
returns-in-Version c = room_by c.args.s.now _ c.read_frame.ensures _ c.in-Version.is

pub returns-in-Whole : goal.returns-in-Whole
returns-in-Whole c = c.room.ensures ∙ room_by c.args.s.now _ c.read_frame.ensures _ c.in-Whole.is
