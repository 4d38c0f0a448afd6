use Rattle.pool.specs.Index.{starts_of}
use Rattle.locate.specs.View.{part}
use Rattle.differences.proofs.FindLaws.{same_size, out-refused, out-cut, out-end, out-denied, out-seeks, out-zone}
use mathlib.Core.List.{[]}
use Rattle.pool.proofs.PoolLaws.{ready}
use Rattle.locate.proofs.WalkingLaws.{located-found, located-refused, located-cut, located_end}
use Rattle.file_differences.proofs.find_with.Goals as goal

pub slice_bounds-first-count : goal.slice_bounds-first-count
slice_bounds-first-count c = (located-found c.walk.ensures.0 _ c.in-Found.is).order

pub slice_bounds-first-start : goal.slice_bounds-first-start
slice_bounds-first-start c = (located-found c.walk.ensures.0 _ c.in-Found.is).order

pub slice_bounds-first-end : goal.slice_bounds-first-end
slice_bounds-first-end c = (located-found c.walk.ensures.0 _ c.in-Found.is).inside

pub slice_bounds-seek-count : goal.slice_bounds-seek-count
slice_bounds-seek-count c = (located-found c.walk.ensures.0 _ c.in-Found.is).order

pub slice_bounds-seek-start : goal.slice_bounds-seek-start
slice_bounds-seek-start c = (located-found c.walk.ensures.0 _ c.in-Found.is).order

pub slice_bounds-seek-end : goal.slice_bounds-seek-end
slice_bounds-seek-end c = (located-found c.walk.ensures.0 _ c.in-Found.is).inside

pub seek-cursor-requires : goal.seek-cursor-requires
seek-cursor-requires c = out-seeks _ [] _ _ _ _ _ (located-found c.walk.ensures.0 _ c.in-Found.is) _ c.first.ensures _ _ c.in-Ok.is c.requires.2

pub returns-in-Refused : goal.returns-in-Refused
returns-in-Refused c = out-refused _ _ _ _ _ _ (located-refused c.walk.ensures.0 _ _ c.in-Refused.is)

pub returns-in-Cut : goal.returns-in-Cut
returns-in-Cut c = out-cut _ _ _ _ _ (located-cut c.walk.ensures.0 _ c.in-Cut.is)

pub returns-in-End : goal.returns-in-End
returns-in-End c = out-end _ _ _ _ _ _ (located_end c.walk.ensures.0 _ c.in-End.is)

pub returns-in-Err : goal.returns-in-Err
returns-in-Err c = out-denied _ _ _ _ _ _ _ (located-found c.walk.ensures.0 _ c.in-Found.is) _ c.first.ensures _ c.in-Err.is

pub shape_of-starts-in-Ok : goal.shape_of-starts-in-Ok
shape_of-starts-in-Ok c = same_size (starts_of (part c.args.d c.args.e c.args.s.now)) c.args.starts.now _ c.walk.ensures.1

pub returns-in-Ok : goal.returns-in-Ok
returns-in-Ok c = out-zone _ _ _ _ _ _ _ (located-found c.walk.ensures.0 _ c.in-Found.is) _ _ c.seek-cursor.ensures c.requires.0 (ready _ _ _ c.requires.1 c.walk.ensures.1)
