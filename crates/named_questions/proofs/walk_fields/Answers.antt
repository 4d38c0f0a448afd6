use mathlib.Core.Path.{refl, ◌∙◌}
use Prim.Native.Nat.{◌+◌, ◌-◌, ◌≤◌, ◌<◌}
use native.Mathlib.Omega.{arith}
use lib.ListN.{length}
use Rattle.named_questions.proofs.WalkingLaws.{walking_start, walking-end, walking-cut, walking-refused, walking-version, walking-inside, walking-aliases, walking_here, walking-fault, walking-keep}
use Rattle.named_questions.proofs.walk_fields.Goals as goal
use Rattle.named_questions.proofs.walk_fields.Goals.{In-Whole}

-- the field that was read lies within the bytes
room : (c : goal.In-Whole)
    → (0 < c.in-Whole.h)
    × (c.loop-n.at + c.in-Whole.h + c.in-Whole.n ≤ length c.args.s.now)
    × (c.loop-n.at + c.in-Whole.h + c.in-Whole.n ≤ 4194304)
room c = walking-inside c.args.name.now c.args.s.now c.args.start c.args.end _ _ _ c.loop-n.invariant.0 _ c.next_frame-f.ensures _ _ _ c.in-Whole.is

pub loop-n-init : goal.loop-n-init
loop-n-init c = (walking_start _ _ _ _ _ c.requires.0.some c.requires.0.inside (omega (arith, c.requires.2, c.requires.3)) c.requires.4, refl)

pub slice_bounds-next_frame-count : goal.slice_bounds-next_frame-count
slice_bounds-next_frame-count c = c.loop-n.invariant.0.inside

pub slice_bounds-next_frame-start : goal.slice_bounds-next_frame-start
slice_bounds-next_frame-start c = c.loop-n.invariant.0.inside

pub slice_bounds-next_frame-end : goal.slice_bounds-next_frame-end
slice_bounds-next_frame-end c = omega (arith, c.loop-n.invariant.0.inside)

pub shape_of-flags-in-End : goal.shape_of-flags-in-End
shape_of-flags-in-End c = c.loop-n.invariant.1

pub returns-in-End : goal.returns-in-End
returns-in-End c = walking-end _ _ _ _ _ _ _ c.loop-n.invariant.0 _ c.next_frame-f.ensures c.in-End.is

pub shape_of-flags-in-Cut : goal.shape_of-flags-in-Cut
shape_of-flags-in-Cut c = c.loop-n.invariant.1

pub returns-in-Cut : goal.returns-in-Cut
returns-in-Cut c = walking-cut _ _ _ _ _ _ _ c.loop-n.invariant.0 _ c.next_frame-f.ensures c.in-Cut.is

pub shape_of-flags-in-Refused : goal.shape_of-flags-in-Refused
shape_of-flags-in-Refused c = c.loop-n.invariant.1

pub returns-in-Refused : goal.returns-in-Refused
returns-in-Refused c = walking-refused _ _ _ _ _ _ _ c.loop-n.invariant.0 _ c.next_frame-f.ensures _ c.in-Refused.is

pub shape_of-flags-in-Version : goal.shape_of-flags-in-Version
shape_of-flags-in-Version c = c.loop-n.invariant.1

pub returns-in-Version : goal.returns-in-Version
returns-in-Version c = walking-version _ _ _ _ _ _ _ c.loop-n.invariant.0 _ c.next_frame-f.ensures c.in-Version.is

pub overflow_add-d : goal.overflow_add-d
overflow_add-d c = omega (arith, room c)

pub overflow_add-e : goal.overflow_add-e
overflow_add-e c = omega (arith, room c)

pub follow-requires : goal.follow-requires
follow-requires c = (c.requires.0, c.requires.1, c.requires.2, omega (arith, c.requires.2, c.loop-n.invariant.0.flags.room), omega arith, (room (goal.at.follow-requires c).In-Whole).1)

pub shape_of-flags-then-i-eq3 : goal.shape_of-flags-then-i-eq3
shape_of-flags-then-i-eq3 c = c.loop-n.invariant.1

pub returns-then-i-eq3 : goal.returns-then-i-eq3
returns-then-i-eq3 c = walking-aliases _ _ _ _ _ _ _ c.loop-n.invariant.0 _ c.next_frame-f.ensures _ _ _ c.in-Whole.is c.if-i-eq3.true _ c.follow.ensures

pub judge_field-j-requires : goal.judge_field-j-requires
judge_field-j-requires c = (c.requires.0, c.requires.1, c.requires.2, omega (arith, c.requires.2, c.loop-n.invariant.0.flags.room), omega arith, (room (goal.at.judge_field-j-requires c).In-Whole).1)

pub shape_of-flags-in-Here : goal.shape_of-flags-in-Here
shape_of-flags-in-Here c = c.judge_field-j.auto.flags ∙ c.loop-n.invariant.1

pub returns-in-Here : goal.returns-in-Here
returns-in-Here c = walking_here _ _ _ _ _ _ _ c.loop-n.invariant.0 _ c.next_frame-f.ensures _ _ _ c.in-Whole.is _ c.if-i-eq3.false _ c.judge_field-j.ensures _ c.requires.2 c.in-Here.is

pub shape_of-flags-in-Fault : goal.shape_of-flags-in-Fault
shape_of-flags-in-Fault c = c.judge_field-j.auto.flags ∙ c.loop-n.invariant.1

pub returns-in-Fault : goal.returns-in-Fault
returns-in-Fault c = walking-fault _ _ _ _ _ _ _ c.loop-n.invariant.0 _ c.next_frame-f.ensures _ _ _ c.in-Whole.is _ c.if-i-eq3.false _ c.judge_field-j.ensures _ c.in-Fault.is

pub loop-n-smaller : goal.loop-n-smaller
loop-n-smaller c = omega (arith, room (goal.at.loop-n-smaller c).In-Whole)

pub loop-n-preserved : goal.loop-n-preserved
loop-n-preserved c = (walking-keep _ _ _ _ _ _ _ c.loop-n.invariant.0 _ c.next_frame-f.ensures _ _ _ c.in-Whole.is _ c.if-i-eq3.false _ c.judge_field-j.ensures c.in-Keep.is, c.judge_field-j.auto.flags ∙ c.loop-n.invariant.1)
