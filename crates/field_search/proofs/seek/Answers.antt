use Prim.Native.Nat.{◌+◌, ◌-◌, ◌≤◌, ◌<◌}
use native.Mathlib.Omega.{arith}
use lib.ListN.{length}
use Rattle.field_search.proofs.SearchLaws.{seeking-start, seeking-end, seeking-cut, seeking-refused, seeking-version, seeking-fits, seeking-found, seeking-next}
use Rattle.field_search.proofs.seek.Goals as goal
use Rattle.field_search.proofs.seek.Goals.{In-Whole}

-- the field that was read lies within the bytes
room : (c : goal.In-Whole)
    → (0 < c.in-Whole.h)
    × (c.loop-i.at + c.in-Whole.h + c.in-Whole.n ≤ length c.args.s.now)
    × (c.loop-i.at + c.in-Whole.h + c.in-Whole.n ≤ 4194304)
room c =
    seeking-fits c.args.id c.args.s.now _ _
    c.loop-i.invariant _ c.read_frame-f.ensures _ _ _ c.in-Whole.is

pub loop-i-init : goal.loop-i-init
loop-i-init c = seeking-start _ _ c.requires

pub slice_bounds-read_frame-count : goal.slice_bounds-read_frame-count
slice_bounds-read_frame-count c = c.loop-i.invariant.inside

pub slice_bounds-read_frame-start : goal.slice_bounds-read_frame-start
slice_bounds-read_frame-start c = c.loop-i.invariant.inside

pub slice_bounds-read_frame-end : goal.slice_bounds-read_frame-end
slice_bounds-read_frame-end c = omega (arith, c.loop-i.invariant.inside)

pub returns-in-End : goal.returns-in-End
returns-in-End c = seeking-end _ _ _ _ c.loop-i.invariant _ c.read_frame-f.ensures c.in-End.is

pub returns-in-Cut : goal.returns-in-Cut
returns-in-Cut c = seeking-cut _ _ _ _ c.loop-i.invariant _ c.read_frame-f.ensures c.in-Cut.is

pub returns-in-Refused : goal.returns-in-Refused
returns-in-Refused c = seeking-refused _ _ _ _ c.loop-i.invariant _ c.read_frame-f.ensures _ c.in-Refused.is

pub returns-in-Version : goal.returns-in-Version
returns-in-Version c = seeking-version _ _ _ _ c.loop-i.invariant _ c.read_frame-f.ensures c.in-Version.is

pub overflow_add-d : goal.overflow_add-d
overflow_add-d c = omega (arith, room c)

pub overflow_add-e : goal.overflow_add-e
overflow_add-e c = omega (arith, room c)

pub returns-then-i-id : goal.returns-then-i-id
returns-then-i-id c = seeking-found _ _ _ _ c.loop-i.invariant _ c.read_frame-f.ensures _ _ _
    c.in-Whole.is c.if-i-id.true

pub loop-i-smaller : goal.loop-i-smaller
loop-i-smaller c = omega (arith, room (goal.at.loop-i-smaller c).In-Whole)

pub loop-i-preserved : goal.loop-i-preserved
loop-i-preserved c = seeking-next _ _ _ _ c.loop-i.invariant _ c.read_frame-f.ensures _ _ _
    c.in-Whole.is c.if-i-id.false
