use native.Mathlib.Omega.{arith}
use Rattle.old_named_questions.proofs.FollowLaws.{asked-zone, asked-none, point-inside, follow-missing, follow-deep, follow-zone, follow-on}
use Rattle.old_name_answers.proofs.+follow.Goals as goal

pub find_target-requires : goal.find_target-requires
find_target-requires t c = c.requires.1

pub returns-then-left-eq0 : goal.returns-then-left-eq0
returns-then-left-eq0 t c = follow-deep _ _ _ _ _ c.requires.2 _ c.find_target.ensures _ _ c.in-Some.is c.if-left-eq0.true

pub slice_bounds-zone_at-count : goal.slice_bounds-zone_at-count
slice_bounds-zone_at-count t c = (point-inside _ _ _ c.find_target.ensures _ _ c.in-Some.is).0

pub slice_bounds-zone_at-start : goal.slice_bounds-zone_at-start
slice_bounds-zone_at-start t c = (point-inside _ _ _ c.find_target.ensures _ _ c.in-Some.is).0

pub slice_bounds-zone_at-end : goal.slice_bounds-zone_at-end
slice_bounds-zone_at-end t c = (point-inside _ _ _ c.find_target.ensures _ _ c.in-Some.is).1

pub zone_at-requires : goal.zone_at-requires
zone_at-requires t c = c.requires.0

pub slice_bounds-follow-count : goal.slice_bounds-follow-count
slice_bounds-follow-count t c = (point-inside _ _ _ c.find_target.ensures _ _ c.in-Some.is).0

pub slice_bounds-follow-start : goal.slice_bounds-follow-start
slice_bounds-follow-start t c = (point-inside _ _ _ c.find_target.ensures _ _ c.in-Some.is).0

pub slice_bounds-follow-end : goal.slice_bounds-follow-end
slice_bounds-follow-end t c = (point-inside _ _ _ c.find_target.ensures _ _ c.in-Some.is).1

pub overflow_sub-left : goal.overflow_sub-left
overflow_sub-left t c = omega (arith, c.if-left-eq0.false)

pub follow-requires : goal.follow-requires
follow-requires t c = (omega (arith, c.if-left-eq0.false), (c.requires.0, c.requires.1, asked-none _ _ c.zone_at.ensures c.in-None-zone_at.is))

pub returns-in-None : goal.returns-in-None
returns-in-None t c = follow-missing _ _ _ _ _ c.requires.2 _ c.find_target.ensures c.in-None.is

pub returns-in-Some-zone_at : goal.returns-in-Some-zone_at
returns-in-Some-zone_at t c = follow-zone _ _ _ _ _ c.requires.2 _ c.find_target.ensures _ _ c.in-Some.is c.if-left-eq0.false _ (asked-zone _ _ c.zone_at.ensures _ c.in-Some-zone_at.is)

pub returns-in-None-zone_at : goal.returns-in-None-zone_at
returns-in-None-zone_at t c = follow-on _ _ _ _ _ c.requires.2 _ c.find_target.ensures _ _ c.in-Some.is c.if-left-eq0.false _ c.follow.ensures
