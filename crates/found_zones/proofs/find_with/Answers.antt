use Rattle.locate.proofs.WalkingLaws.{located-found, located-refused, located-cut, located_end}
use Rattle.found_zones.proofs.FindLaws.{out-refused, out-cut, out-end, out-denied, out-zone}
use Rattle.found_zones.proofs.find_with.Goals as goal

pub slice_bounds-check-count : goal.slice_bounds-check-count
slice_bounds-check-count c = (located-found c.walk.ensures.0 _ c.in-Found.is).order

pub slice_bounds-check-start : goal.slice_bounds-check-start
slice_bounds-check-start c = (located-found c.walk.ensures.0 _ c.in-Found.is).order

pub slice_bounds-check-end : goal.slice_bounds-check-end
slice_bounds-check-end c = (located-found c.walk.ensures.0 _ c.in-Found.is).inside

pub returns-in-Refused : goal.returns-in-Refused
returns-in-Refused c = out-refused _ _ _ _ (located-refused c.walk.ensures.0 _ _ c.in-Refused.is)

pub returns-in-Cut : goal.returns-in-Cut
returns-in-Cut c = out-cut _ _ _ (located-cut c.walk.ensures.0 _ c.in-Cut.is)

pub returns-in-End : goal.returns-in-End
returns-in-End c = out-end _ _ _ _ (located_end c.walk.ensures.0 _ c.in-End.is)

pub returns-in-Err : goal.returns-in-Err
returns-in-Err c = out-denied _ _ _ _ _ (located-found c.walk.ensures.0 _ c.in-Found.is) _ c.check.ensures _ c.in-Err.is

pub returns-in-Ok : goal.returns-in-Ok
returns-in-Ok c = out-zone _ _ _ _ _ (located-found c.walk.ensures.0 _ c.in-Found.is) _ c.check.ensures c.requires.0 _ c.in-Ok.is
