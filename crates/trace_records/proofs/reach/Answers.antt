use native.Mathlib.Omega.{arith}
use Rattle.trace_records.proofs.PassedLaws.{look-room, look-new, reached-seen}
use Rattle.trace_records.proofs.reach.Goals as goal

pub walk_on-requires : goal.walk_on-requires
walk_on-requires c = (c.requires.0, c.requires.1, c.requires.2, c.requires.3, look-new _ _ _ _ _ _ _ c.requires.3 _ _ c.find_gap.ensures _ _ c.in-New.is)

pub returns-in-Known : goal.returns-in-Known
returns-in-Known c = reached-seen _ _ _ _ _ _ _ c.requires.3 _ _ c.find_gap.ensures _ c.in-Known.is

pub offset_bounds-froms-k : goal.offset_bounds-froms-k
offset_bounds-froms-k c = omega (arith, look-room _ _ _ _ _ _ _ c.requires.3 _ _ c.find_gap.ensures _ c.in-Known.is)

pub bounds-froms-k : goal.bounds-froms-k
bounds-froms-k c = (look-room _ _ _ _ _ _ _ c.requires.3 _ _ c.find_gap.ensures _ c.in-Known.is).0

pub overflow_cast-result : goal.overflow_cast-result
overflow_cast-result c = omega (arith, look-room _ _ _ _ _ _ _ c.requires.3 _ _ c.find_gap.ensures _ c.in-Known.is)

pub offset_bounds-tos-k : goal.offset_bounds-tos-k
offset_bounds-tos-k c = omega (arith, look-room _ _ _ _ _ _ _ c.requires.3 _ _ c.find_gap.ensures _ c.in-Known.is)

pub bounds-tos-k : goal.bounds-tos-k
bounds-tos-k c = (look-room _ _ _ _ _ _ _ c.requires.3 _ _ c.find_gap.ensures _ c.in-Known.is).0

pub overflow_cast-result-in-Known : goal.overflow_cast-result-in-Known
overflow_cast-result-in-Known c = omega (arith, look-room _ _ _ _ _ _ _ c.requires.3 _ _ c.find_gap.ensures _ c.in-Known.is)
