use native.Mathlib.Omega.{arith}
use Rattle.trace_records.proofs.NextLaws.{next-end, next-cut, next-refused, next-version, next-inside, next-bad, next-zone}
use Rattle.trace_records.proofs.read_next.Goals as goal

pub overflow_add-a : goal.overflow_add-a
overflow_add-a c = omega (arith, next-inside c.args.s.now c.args.count _ _ c.requires.0 c.requires.1 _ c.read_frame-f.ensures _ _ _ c.in-Whole.is)

pub overflow_add-b : goal.overflow_add-b
overflow_add-b c = omega (arith, next-inside c.args.s.now c.args.count _ _ c.requires.0 c.requires.1 _ c.read_frame-f.ensures _ _ _ c.in-Whole.is)

pub slice_bounds-check-end : goal.slice_bounds-check-end
slice_bounds-check-end c = (next-inside c.args.s.now c.args.count _ _ c.requires.0 c.requires.1 _ c.read_frame-f.ensures _ _ _ c.in-Whole.is).1

pub returns-in-End : goal.returns-in-End
returns-in-End c = next-end _ _ _ _ c.requires.0 c.requires.1 _ c.read_frame-f.ensures c.in-End.is

pub returns-in-Cut : goal.returns-in-Cut
returns-in-Cut c = next-cut _ _ _ _ c.requires.0 c.requires.1 _ c.read_frame-f.ensures c.in-Cut.is

pub returns-in-Refused : goal.returns-in-Refused
returns-in-Refused c = next-refused _ _ _ _ c.requires.0 c.requires.1 _ c.read_frame-f.ensures _ c.in-Refused.is

pub returns-in-Version : goal.returns-in-Version
returns-in-Version c = next-version c.args.s.now c.args.count _ _ c.requires.0 c.requires.1 _ c.read_frame-f.ensures c.in-Version.is

pub returns-in-Err : goal.returns-in-Err
returns-in-Err c = next-bad _ _ _ _ c.requires.0 c.requires.1 _ c.read_frame-f.ensures _ _ _ c.in-Whole.is _ c.check.ensures _ c.in-Err.is

pub returns-in-Ok : goal.returns-in-Ok
returns-in-Ok c = next-zone _ _ _ _ c.requires.0 c.requires.1 _ c.read_frame-f.ensures _ _ _ c.in-Whole.is _ c.check.ensures _ c.in-Ok.is
