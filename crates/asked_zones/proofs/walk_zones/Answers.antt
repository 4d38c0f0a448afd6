use Prim.Native.Nat.{◌+◌, ◌-◌, ◌≤◌, ◌<◌}
use native.Mathlib.Omega.{arith}
use lib.ListN.{length}
use Rattle.asked_zones.proofs.KnownLaws.{walked_start, walked_end, walked-cut, walked-refused, walked-version, walked-inside, walked_here, walked-fault, walked-keep}
use Rattle.asked_zones.proofs.walk_zones.Goals as goal
use Rattle.asked_zones.proofs.walk_zones.Goals.{In-Whole}

-- the field that was read lies within the bytes
room : (c : goal.In-Whole)
    → (0 < c.in-Whole.h)
    × (c.loop-n.at + c.in-Whole.h + c.in-Whole.n ≤ length c.args.s.now)
    × (c.loop-n.at + c.in-Whole.h + c.in-Whole.n ≤ 4194304)
room c = walked-inside c.args.known c.args.id.now c.args.s.now c.args.start c.args.end _ _ c.loop-n.invariant _ c.next_frame-f.ensures _ _ _ c.in-Whole.is

pub loop-n-init : goal.loop-n-init
loop-n-init c = walked_start _ _ _ _ _ c.requires.0.some c.requires.0.inside

pub slice_bounds-next_frame-count : goal.slice_bounds-next_frame-count
slice_bounds-next_frame-count c = c.loop-n.invariant.inside

pub slice_bounds-next_frame-start : goal.slice_bounds-next_frame-start
slice_bounds-next_frame-start c = c.loop-n.invariant.inside

pub slice_bounds-next_frame-end : goal.slice_bounds-next_frame-end
slice_bounds-next_frame-end c = omega (arith, c.loop-n.invariant.inside)

pub returns-in-End : goal.returns-in-End
returns-in-End c = walked_end _ _ _ _ _ _ _ c.loop-n.invariant _ c.next_frame-f.ensures c.in-End.is

pub returns-in-Cut : goal.returns-in-Cut
returns-in-Cut c = walked-cut _ _ _ _ _ _ _ c.loop-n.invariant _ c.next_frame-f.ensures c.in-Cut.is

pub returns-in-Refused : goal.returns-in-Refused
returns-in-Refused c = walked-refused _ _ _ _ _ _ _ c.loop-n.invariant _ c.next_frame-f.ensures _ c.in-Refused.is

pub returns-in-Version : goal.returns-in-Version
returns-in-Version c = walked-version _ _ _ _ _ _ _ c.loop-n.invariant _ c.next_frame-f.ensures c.in-Version.is

pub overflow_add-d : goal.overflow_add-d
overflow_add-d c = omega (arith, room c)

pub overflow_add-e : goal.overflow_add-e
overflow_add-e c = omega (arith, room c)

pub slice_bounds-judge_by-count : goal.slice_bounds-judge_by-count
slice_bounds-judge_by-count c = c.requires.0.order

pub slice_bounds-judge_by-start : goal.slice_bounds-judge_by-start
slice_bounds-judge_by-start c = c.requires.0.order

pub slice_bounds-judge_by-end : goal.slice_bounds-judge_by-end
slice_bounds-judge_by-end c = c.requires.0.inside

pub slice_bounds-judge_by-end-in-Whole : goal.slice_bounds-judge_by-end-in-Whole
slice_bounds-judge_by-end-in-Whole c = (room (goal.at.slice_bounds-judge_by-end-in-Whole c).In-Whole).1

pub judge_by-j-requires : goal.judge_by-j-requires
judge_by-j-requires c = (c.requires.1, c.requires.2)

pub returns-in-Here : goal.returns-in-Here
returns-in-Here c = walked_here _ _ _ _ _ _ _ c.loop-n.invariant _ c.next_frame-f.ensures _ _ _ c.in-Whole.is _ c.requires.2 _ c.judge_by-j.ensures c.in-Here.is

pub returns-in-Fault : goal.returns-in-Fault
returns-in-Fault c = walked-fault _ _ _ _ _ _ _ c.loop-n.invariant _ c.next_frame-f.ensures _ _ _ c.in-Whole.is _ c.requires.2 _ c.judge_by-j.ensures _ c.in-Fault.is

pub loop-n-smaller : goal.loop-n-smaller
loop-n-smaller c = omega (arith, room (goal.at.loop-n-smaller c).In-Whole)

pub loop-n-preserved : goal.loop-n-preserved
loop-n-preserved c = walked-keep _ _ _ _ _ _ _ c.loop-n.invariant _ c.next_frame-f.ensures _ _ _ c.in-Whole.is _ c.requires.2 _ c.judge_by-j.ensures c.in-Keep.is
